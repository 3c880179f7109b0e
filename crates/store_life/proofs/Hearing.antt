-- What a node does with the messages between a leader that is node 1 and the others.
use Rattle.std.proofs.Common.{◌≡◌, ℕ, suc, ◌+◌, ◌-◌, ◌≤◌, ◌==◌, ◌&&◌, not, Bool, true, false, List, [], ◌∷◌, ◌++◌, length, take, drop, Some, None, nat_lt, nat_le, refl, sym, ap, ◌∙◌, arith}
use Rattle.std.specs.Prelude.{max, min}
use Rattle.std.proofs.lemmas.Bool.{cond-true, cond-false, le-ltb, le-leb}
use Rattle.raft_log.specs.declared.entry.Entry.{Entry}
use Rattle.raft_log.specs.declared.message.Kind.TheVariants.{Append}
use Rattle.raft_log.specs.declared.message.Message.{Message}
use Rattle.raft_log.specs.declared.role.Role.TheVariants.{Follower, Leader}
use Rattle.raft_log.specs.Batches.{batch, batch_limit}
use Rattle.raft_log.specs.Lists.{item_or, with_item}
use Rattle.raft_log.specs.Logs.{agrees_at, conflicts_within, term_at}
use Rattle.raft_log.specs.Node.{Node, message}
use Rattle.raft_log.specs.Votes.{commit_place}
use Rattle.replication.specs.Replication.{advanced, answering, reply}
use Rattle.node_steps.specs.Messages.{handled, is_heard, on_message}
use Rattle.store_life.proofs.Lists.{agrees, no_conflict, other_number, reach, repaired, same_number}

same_term : (t : ℕ) → nat_lt t t ≡ false
same_term t = le-ltb t t (omega arith)

module _ {B : Type 0} where
  -- a follower of this run and term that gave its vote to node 1, with this log; else it is like another node
  abbrev pub following : ℕ → ℕ → List (Entry B) → Node B → Node B
  following boot term log s = record s { boot = boot; term = term; vote = Some 1; log = log; role = Follower }

  -- a leader
  abbrev pub leading : ℕ → ℕ → List (Entry B) → Node B → Node B
  leading boot term log s = record s { boot = boot; term = term; vote = Some 1; log = log; role = Leader; leader = None }

  pub is_heard_from : (size i : ℕ) (m : Message B) → m.to ≡ i → (m.from ≡ i → ⊥) → 1 ≤ m.from → m.from ≤ size → is_heard size i m ≡ true
  is_heard_from size i m to other pos within =
      let a : (m.to == i) ≡ true = ap (λ (x : ℕ). m.to == x) (sym to) ∙ same_number m.to in
      let b : (m.from == i) ≡ false = other_number m.from i other in
      let c : nat_le 1 m.from ≡ true = le-leb 1 m.from pos in
      let d : nat_le m.from size ≡ true = le-leb m.from size within in
      ap (λ (x : Bool). x && (not (m.from == i) && (nat_le 1 m.from && nat_le m.from size))) a
      ∙ ap (λ (x : Bool). not x && (nat_le 1 m.from && nat_le m.from size)) b
      ∙ ap (λ (x : Bool). x && nat_le m.from size) c
      ∙ d

  -- a message of the node's own term is handled
  pub heard_now : (blank : B) (size i : ℕ) (s : Node B) (m : Message B) → is_heard size i m ≡ true → m.term ≡ s.term → on_message blank size i s m ≡ handled blank size i s m m.kind
  heard_now blank size i s m h t =
      let no : nat_lt s.term m.term ≡ false = ap (λ (x : ℕ). nat_lt s.term x) t ∙ same_term s.term in
      cond-true (is_heard size i m) _ _ h ∙ ap (λ (r : Node B). handled blank size i r m m.kind) (cond-false (nat_lt s.term m.term) _ _ no)

  -- a follower as it took from a leader what it lacks of its log, and said so
  abbrev pub caught_up : ℕ → ℕ → ℕ → ℕ → List (Entry B) → Node B → Node B
  caught_up j T p c log f =
      record f { leader = Some 1; commit = max f.commit (min c (p + length (take batch_limit (drop p log)))); sent = f.sent ++ reply T j 1 true (length log) ∷ [] }

  -- An append of all that a follower lacks: it has the whole log then.
  module _ (blank : B) (size j boot T p c : ℕ) (log : List (Entry B)) (f : Node B) (far : 2 ≤ j) (within : j ≤ size) (reaches : p ≤ length log) (few : length log ≤ p + batch_limit) where
    entries : List (Entry B)
    entries = take batch_limit (drop p log)

    append : Message B
    append = message T 1 j (Append (batch p (term_at log p) (take batch_limit (drop p log)) c))

    follower : Node B
    follower = following boot T (take p log) f

    knowing : Node B
    knowing = record (following boot T (take p log) f) { role = Follower; leader = Some 1 }

    pub hears_append : on_message blank size j (following boot T (take p log) f) (message T 1 j (Append (batch p (term_at log p) (take batch_limit (drop p log)) c))) ≡ following boot T log (caught_up j T p c log f)
    unfolding entries append follower knowing
    hears_append =
        heard_now blank size j follower append (is_heard_from size j append refl (λ e. omega arith) (omega arith) (omega arith)) refl
        ∙ cond-false (nat_lt T T) _ _ (same_term T)
        ∙ cond-true (agrees_at (take p log) p (term_at log p)) _ _ (agrees p log reaches)
        ∙ cond-false (conflicts_within (drop p (take p log)) entries (f.commit - p)) _ _ (no_conflict p (f.commit - p) log entries)
        ∙ ap (λ (l : List (Entry B)). answering j (record knowing { log = l; commit = max f.commit (min c (p + length entries)) }) 1 true (p + length entries)) (repaired p batch_limit log reaches few)
        ∙ ap (λ (n : ℕ). answering j (record knowing { log = log; commit = max f.commit (min c (p + length entries)) }) 1 true n) (reach p batch_limit log reaches few)

  -- a leader as it knows that a node has its whole log
  abbrev pub told : ℕ → ℕ → ℕ → List (Entry B) → Node B → Node B
  told size j T log s =
      record s {
        matched = with_item s.matched j (length log);
        next = with_item s.next j (suc (length log));
        commit = commit_place size (with_item (with_item s.matched j (length log)) 1 (length log)) log T s.commit (length log);
      }

  -- A reply of a follower that has the whole log.
  module _ (blank : B) (size j boot T : ℕ) (log : List (Entry B)) (s : Node B) (far : 2 ≤ j) (within : j ≤ size) (below : item_or s.matched j 0 ≤ length log) where
    pub hears_reply : on_message blank size 1 (leading boot T log s) (reply T j 1 true (length log)) ≡ leading boot T log (told size j T log s)
    hears_reply =
        let m : Message B = reply T j 1 true (length log) in
        let reached : max (length log) (item_or s.matched j 0) ≡ length log = omega arith in
        let here : ((T == T) && nat_le (length log) (length log)) ≡ true = ap (λ (b : Bool). b && nat_le (length log) (length log)) (same_number T) ∙ le-leb (length log) (length log) (omega arith) in
        heard_now blank size 1 (leading boot T log s) m (is_heard_from size 1 m refl (λ e. omega arith) (omega arith) (omega arith)) refl
        ∙ cond-true ((T == T) && nat_le (length log) (length log)) _ _ here
        ∙ ap (λ (r : ℕ). advanced size 1 (record (leading boot T log s) { matched = with_item s.matched j r; next = with_item s.next j (suc r) })) reached
