-- How the step of a message is put together.
use Rattle.std.proofs.Common.{◌≡◌, ◌≤◌, ◌<◌, ℕ, Bool, true, false, nat_lt, List, [], ◌∷◌, length, take, None, Some, Result, Ok, Err, IfOk, refl, sym, ap, ◌∙◌, subst, arith}
use Rattle.std.proofs.lemmas.Bool.{cond-true, cond-false, ltb-true}
use Rattle.std.specs.Prelude.{if◌then◌else◌}
use Rattle.raft_log.specs.declared.entry.Entry.{Entry}
use Rattle.raft_log.specs.declared.message.Kind.{Kind}
use Rattle.raft_log.specs.declared.message.Kind.TheVariants.{RequestVote, Vote, Append, AppendReply, Forward}
use Rattle.raft_log.specs.declared.message.Message.{Message}
use Rattle.raft_log.specs.declared.node_state.Standing.{Standing}
use Rattle.raft_log.specs.declared.role.Role.TheVariants.{Follower}
use Rattle.raft_log.specs.declared.step.Step.{Step}
use Rattle.raft_log.specs.Node.{Node, message, raised, sending}
use Rattle.raft_log.specs.Seen.{Becomes, node_of}
use Rattle.raft_log.specs.Steps.{IsSavable, IsSending, IsStep, IsWithinLog, KeepsCommitted, KeepsWithinLog, PlacesWithin, Prepares, log_after}
use Rattle.raft_log.proofs.Sending.{node_still, sent-step, within-following}
use Rattle.election.specs.Elections.{grants, on_request_vote}
use Rattle.node_steps.specs.Messages.{handled, is_heard, on_message}

-- the places of a node are within its log
abbrev IsWithin : {B : Type 0} → Node B → Type 0
IsWithin n = PlacesWithin (length n.log) n.role n.commit n.next n.matched

module _ {B : Type 0} where
  -- the node follows in this term
  abbrev followed : Node B → ℕ → Node B
  followed n t = record n { term = t; vote = None; role = Follower; leader = None; live = None }

  raised-boot : (n : Node B) (t : ℕ) (b : Bool) → (if b then followed n t else n).boot ≡ n.boot
  raised-boot n t true = refl
  raised-boot n t false = refl

  raised-commit : (n : Node B) (t : ℕ) (b : Bool) → (if b then followed n t else n).commit ≡ n.commit
  raised-commit n t true = refl
  raised-commit n t false = refl

  raised-term : (n : Node B) (t : ℕ) (b : Bool) → nat_lt n.term t ≡ b → n.term ≤ (if b then followed n t else n).term
  raised-term n t true e = let lt : n.term < t = ltb-true n.term t e in omega arith
  raised-term n t false e = omega arith

  raised-within : (n : Node B) (t : ℕ) (b : Bool) → IsWithin n → IsWithin (if b then followed n t else n)
  raised-within n t true w = within-following Follower refl w.commit_within
  raised-within n t false w = w

  module _ (s r : Standing) (log : List (Entry B)) (t : ℕ) (h : Becomes (λ n. raised n t) s log r) where
    same_boot : r.boot ≡ s.boot
    same_boot = ap (λ (n : Node B). n.boot) (h []) ∙ raised-boot (node_of s log []) t (nat_lt s.term t)

    same_commit : r.commit ≡ s.commit
    same_commit = ap (λ (n : Node B). n.commit) (h []) ∙ raised-commit (node_of s log []) t (nat_lt s.term t)

    rises : s.term ≤ r.term
    rises =
        let e : r.term ≡ (raised (node_of s log []) t).term = ap (λ (n : Node B). n.term) (h []) in
        let le : s.term ≤ (raised (node_of s log []) t).term = raised-term (node_of s log []) t (nat_lt s.term t) refl in
        omega arith

    -- the places of a node are within its log in the raised term too
    pub stays_within : IsWithinLog s log → IsWithinLog r log
    stays_within w = subst (λ (n : Node B). IsWithin n) (sym (h [])) (raised-within (node_of s log []) t (nat_lt s.term t) w)

    -- a step from the raised term on is one that raises it first
    raises : (f : Node B → Node B) (step : Step B) → IsStep f r log step → IsStep (λ n. f (raised n t)) s log step
    raises f step k =
        let boot = same_boot in
        let commit = same_commit in
        let term = rises in
        record {
          prepares = λ sent. k.prepares sent ∙ ap f (h sent);
          savable = record { kept = k.savable.kept; few = k.savable.few; room = k.savable.room; boot = k.savable.boot ∙ boot; term = omega (arith, k.savable.term) };
          places = λ w. k.places (stays_within w);
          committed = subst (λ (c : ℕ). (c ≤ length log → take c (log_after log step) ≡ take c log) × (c ≤ step.standing.commit)) commit k.committed;
        }

  raised-peers : (n : Node B) (t : ℕ) (b : Bool)
      → record (if b then followed n t else n) { voters = n.voters; next = n.next; matched = n.matched } ≡ (if b then followed n t else n)
  raised-peers n t true = refl
  raised-peers n t false = refl

  -- a larger term leaves what is known of the other nodes
  pub same_peers : (s r : Standing) (log : List (Entry B)) (t : ℕ) → Becomes (λ n. raised n t) s log r → Becomes (λ n. raised n t) s log (record r { peers = s.peers })
  same_peers s r log t h sent =
      let n : Node B = node_of s log sent in
      ap (λ (x : Node B). record x { voters = n.voters; next = n.next; matched = n.matched }) (h sent)
      ∙ raised-peers n t (nat_lt s.term t)

  -- a message that is not heard changes nothing
  pub unheard : (blank : B) (size i : ℕ) (m : Message B) (s : Standing) (log : List (Entry B)) (step : Step B) → is_heard size i m ≡ false → IsSending s log [] step
      → IsStep (λ n. on_message blank size i n m) s log step
  unheard blank size i m s log step e h =
      sent-step s log [] step h s (λ n. on_message blank size i n m)
      (λ sent. node_still s log sent ∙ sym (cond-false (is_heard size i m) (handled blank size i (raised (node_of s log sent) m.term) m m.kind) (node_of s log sent) e))
      refl (omega arith) (omega arith) (λ w. w)

  hears : (blank : B) (size i : ℕ) (m : Message B) (s r : Standing) (log : List (Entry B)) (step : Step B) → is_heard size i m ≡ true
      → Becomes (λ n. raised n m.term) s log r → IsStep (λ n. handled blank size i n m m.kind) r log step → IsStep (λ n. on_message blank size i n m) s log step
  hears blank size i m s r log step e h k =
      let by : IsStep (λ n. handled blank size i (raised n m.term) m m.kind) s log step = raises s r log m.term h (λ n. handled blank size i n m m.kind) step k in
      record {
        prepares = λ sent.
            by.prepares sent
            ∙ sym (cond-true (is_heard size i m) (handled blank size i (raised (node_of s log sent) m.term) m m.kind) (node_of s log sent) e);
        savable = by.savable;
        places = by.places;
        committed = by.committed;
      }

  -- one that is heard raises the term and is handled
  pub hears_as : (blank : B) (size size' i from : ℕ) (m : Message B) (s r : Standing) (log : List (Entry B)) (step : Step B) → is_heard size i m ≡ true → from ≡ m.from → size' ≡ size
      → Becomes (λ n. raised n m.term) s log r → IsStep (λ n. handled blank size' i n (message m.term from i m.kind) m.kind) r log step → IsStep (λ n. on_message blank size i n m) s log step
  hears_as blank size size' i from m s r log step e ef es h k =
      let sized : IsStep (λ n. handled blank size i n (message m.term from i m.kind) m.kind) r log step =
      subst (λ (x : ℕ). IsStep (λ n. handled blank x i n (message m.term from i m.kind) m.kind) r log step) es k
      in
      let by : IsStep (λ n. handled blank size i n (message m.term m.from i m.kind) m.kind) r log step =
      subst (λ (x : ℕ). IsStep (λ n. handled blank size i n (message m.term x i m.kind) m.kind) r log step) ef sized
      in
      hears blank size i m s r log step e h (as_kind m.kind by)
    where
      as_kind : (kind : Kind B) → IsStep (λ n. handled blank size i n (message m.term m.from i kind) kind) r log step → IsStep (λ n. handled blank size i n m kind) r log step
      as_kind (RequestVote index last) w = w
      as_kind (Vote granted) w = w
      as_kind (Append batch) w = w
      as_kind (AppendReply ok place) w = w
      as_kind (Forward body) w = w

  -- a step that neither commits nor changes the log keeps what was committed
  keeps : (f : Node B → Node B) (s : Standing) (log : List (Entry B)) (step : Step B) → Prepares f s log step
      → (f (node_of s log [])).log ≡ log → (f (node_of s log [])).commit ≡ s.commit → KeepsCommitted s log step
  keeps f s log step p same commit =
      let is : step.standing.commit ≡ (f (node_of s log [])).commit = ap (λ (n : Node B). n.commit) (p []) in
      (λ within. ap (take s.commit) (ap (λ (n : Node B). n.log) (p []) ∙ same), omega arith)

  -- so does the answer to a request for a vote
  pub votes : (i from t index last : ℕ) (s : Standing) (log : List (Entry B)) (step : Step B) → Prepares (λ n. on_request_vote i n from t index last) s log step
      → IsSavable s log step → KeepsWithinLog s log step → IsStep (λ n. on_request_vote i n from t index last) s log step
  votes i from t index last s log step p savable places =
      let now : Node B = node_of s log [] in
      let granted : Bool = grants now from t index last in
      let yes : Node B = sending (record now { vote = Some from }) (message s.term i from (Vote true) ∷ []) in
      let no : Node B = sending now (message s.term i from (Vote false) ∷ []) in
      record {
        prepares = p;
        savable = savable;
        places = places;
        committed = keeps (λ n. on_request_vote i n from t index last) s log step p (either_log granted yes no log refl refl) (either_commit granted yes no s.commit refl refl);
      }
    where
      either_log : (b : Bool) (x y : Node B) (l : List (Entry B)) → x.log ≡ l → y.log ≡ l → (if b then x else y).log ≡ l
      either_log true x y l h k = h
      either_log false x y l h k = k

      either_commit : (b : Bool) (x y : Node B) (c : ℕ) → x.commit ≡ c → y.commit ≡ c → (if b then x else y).commit ≡ c
      either_commit true x y c h k = h
      either_commit false x y c h k = k

  -- a step by the kind of a message
  pub by_kind : (blank : B) (size i from t : ℕ) (s : Standing) (log : List (Entry B)) (step : Step B) (kind k : Kind B) → kind ≡ k
      → IsStep (λ n. handled blank size i n (message t from i k) k) s log step → IsStep (λ n. handled blank size i n (message t from i kind) kind) s log step
  by_kind blank size i from t s log step kind k e h =
      subst (λ (x : Kind B). IsStep (λ n. handled blank size i n (message t from i x) x) s log step) (sym e) h

-- what follows from three facts if a call has not failed
pub ok_split : {A E : Type 0} {P Q R S : A → Type 0} (r : Result A E) → ((x : A) → P x → Q x → R x → S x) → IfOk r P → IfOk r Q → IfOk r R → IfOk r S
ok_split (Ok x) f p q w = f x p q w
ok_split (Err e) f p q w = tt
