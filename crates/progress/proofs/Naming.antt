-- Where a session's id is in the logs: it is of the term of its entry, and of an attempt that the leader of that term
-- made.
use Rattle.std.proofs.Common.{◌≡◌, ℕ, zero, suc, pred, ◌-◌, ◌<◌, ◌≤◌, Bool, true, false, ◌&&◌, ◌||◌, eqb, ltb, leb, List, [], ◌∷◌, ◌++◌, length, map, take, drop, Option, Some, None, refl, subst, arith}
use Rattle.std.specs.Prelude.{◌^◌}
use Rattle.std.proofs.lemmas.Bool.{cond_both, and_parts, ltb-false, ltb-true}
use Rattle.wire_bytes.specs.declared.session_id.SessionId.{SessionId}
use Rattle.raft_log.specs.declared.entry.Entry.{Entry}
use Rattle.raft_log.specs.declared.message.Kind.{Kind}
use Rattle.raft_log.specs.declared.message.Kind.TheVariants.{RequestVote, Vote, Append, AppendReply, Forward}
use Rattle.raft_log.specs.declared.message.Message.{Message}
use Rattle.raft_log.specs.declared.role.Role.{Role}
use Rattle.raft_log.specs.declared.role.Role.TheVariants.{Follower, Candidate, Leader}
use Rattle.raft_log.specs.Batches.{batch_limit}
use Rattle.raft_log.specs.Lists.{item, item_or, with_item, others}
use Rattle.raft_log.specs.Logs.{entry_limit, agrees_at, conflicts_within, merged}
use Rattle.raft_log.specs.Node.{Node, is_leader, is_candidate, raised}
use Rattle.raft_log.specs.Votes.{majority}
use Rattle.election.specs.Elections.{asking, timed_out, grants, leading, vote_requests}
use Rattle.election.specs.Elections as election
use Rattle.replication.specs.Replication.{append_for, beat, with_match, advanced, stepped_back, appending, on_forward, forwarded, ask}
use Rattle.node_steps.specs.Messages.{is_heard, handled, on_message}
use Rattle.raft_node.specs.Raft.{restarted}

-- each of a list
abbrev pub Each : {A : Type 0} → (A → Type 0) → List A → Type 0
Each P [] = Unit {0}
Each P (x ∷ xs) = P x × Each P xs

module _ {A : Type 0} where
  pub each_map : (P Q : A → Type 0) → ((x : A) → P x → Q x) → (xs : List A) → Each P xs → Each Q xs
  each_map P Q f [] h = tt
  each_map P Q f (x ∷ xs) h = (f x h.0, each_map P Q f xs h.1)

  pub each_append : (P : A → Type 0) (xs ys : List A) → Each P xs → Each P ys → Each P (xs ++ ys)
  each_append P [] ys a b = b
  each_append P (x ∷ xs) ys a b = (a.0, each_append P xs ys a.1 b)

  each_take : (P : A → Type 0) (k : ℕ) (xs : List A) → Each P xs → Each P (take k xs)
  each_take P zero xs h = tt
  each_take P (suc k) [] h = tt
  each_take P (suc k) (x ∷ xs) h = (h.0, each_take P k xs h.1)

  each_drop : (P : A → Type 0) (k : ℕ) (xs : List A) → Each P xs → Each P (drop k xs)
  each_drop P zero xs h = h
  each_drop P (suc k) [] h = tt
  each_drop P (suc k) (x ∷ xs) h = each_drop P k xs h.1

  pub each_at : (P : A → Type 0) (xs : List A) (k : ℕ) (x : A) → Each P xs → item xs k ≡ Some x → P x
  each_at P xs zero x h at = absurd (cc at)
  each_at P [] (suc k) x h at = absurd (cc at)
  each_at P (y ∷ xs) (suc zero) x h at = let e : y ≡ x = cc at in subst P e h.0
  each_at P (y ∷ xs) (suc (suc k)) x h at = each_at P xs (suc k) x h.1 at

each_of : {A C : Type 0} (P : C → Type 0) (f : A → C) (xs : List A) → ((x : A) → P (f x)) → Each P (map f xs)
each_of P f [] h = tt
each_of P f (x ∷ xs) h = (h x, each_of P f xs h)

each_merged : {B : Type 0} (P : Entry B → Type 0) (xs es : List (Entry B)) → Each P xs → Each P es → Each P (merged xs es)
each_merged P xs [] a b = a
each_merged P [] (e ∷ es) a b = b
each_merged P (x ∷ xs) (e ∷ es) a b =
    cond_both (eqb x.term e.term) (x ∷ merged xs es) (e ∷ es) (Each P) (λ h. (a.0, each_merged P xs es a.1 b.1)) (λ h. b)

pub not_both : (r : Role) → is_leader r ≡ true → is_candidate r ≡ true → ⊥
not_both Follower a b = absurd (cc a)
not_both Candidate a b = absurd (cc a)
not_both Leader a b = absurd (cc b)

or_left : (a b : Bool) → (a || b) ≡ false → a ≡ false
or_left true b h = h
or_left false b h = refl

module _ {B : Type 0} (names : B → Option SessionId) where
  -- the session that an entry names is of the entry's term
  abbrev pub Termed : Entry B → Type 0
  Termed e = (id : SessionId) → names e.body ≡ Some id → id.0 ≡ e.term

  -- an entry in the log of a node in this term, in this role, that made this many attempts
  pub record Fine (t : ℕ) (role : Role) (attempts : ℕ) (e : Entry B) : Type 0 where
    pub upto : e.term ≤ t
    pub termed : Termed e
    pub under : is_candidate role ≡ true → e.term < t
    pub made : is_leader role ≡ true → e.term ≡ t → (id : SessionId) → names e.body ≡ Some id → id.1 ≤ attempts

  -- an entry in a message of this term
  pub record Sendable (t : ℕ) (e : Entry B) : Type 0 where
    pub upto : e.term ≤ t
    pub termed : Termed e

  abbrev pub FineKind : ℕ → Kind B → Type 0
  FineKind t (RequestVote index last) = Unit {0}
  FineKind t (Vote granted) = Unit {0}
  FineKind t (Append b) = Each (Sendable t) b.entries
  FineKind t (AppendReply ok place) = Unit {0}
  FineKind t (Forward body) = names body ≡ None

  abbrev pub FineMessage : Message B → Type 0
  FineMessage m = FineKind m.term m.kind

  -- so it is for a node
  pub record Named (s : Node B) : Type 0 where
    pub log_ok : Each (Fine s.term s.role s.attempts) s.log
    pub sent_ok : Each FineMessage s.sent

  -- as a node that follows
  follows_fine : (t u : ℕ) (r : Role) (a b : ℕ) → t ≤ u → (e : Entry B) → Fine t r a e → Fine u Follower b e
  follows_fine t u r a b le e f = record { upto = omega (arith, f.upto); termed = f.termed; under = λ h. absurd (cc h); made = λ h. absurd (cc h) }

  sent_follows : (t : ℕ) (a : ℕ) (e : Entry B) → Sendable t e → (u : ℕ) → t ≤ u → Fine u Follower a e
  sent_follows t a e f u le = record { upto = omega (arith, f.upto); termed = f.termed; under = λ h. absurd (cc h); made = λ h. absurd (cc h) }

  -- a leader may append what names no session
  nameless : (t a : ℕ) (b : B) → names b ≡ None → Fine t Leader a (record { term = t; body = b })
  nameless t a b none = record { upto = omega arith; termed = λ id e. absurd (cc (none, e)); under = λ h. absurd (cc h); made = λ l s id e. absurd (cc (none, e)) }

  sends : (s : Node B) (ms : List (Message B)) → Named s → Each FineMessage ms → Each FineMessage (s.sent ++ ms)
  sends s ms h m = each_append FineMessage s.sent ms h.sent_ok m

  module _ (n i : ℕ) (s : Node B) (h : Named s) where
    pub timeout_named : Named (timed_out n i s)
    timeout_named =
        cond_both (is_leader s.role || leb (2 ^ 60) s.term) s (asking n i s) Named (λ q. h)
        (λ q. record {
          log_ok = each_map (Fine s.term s.role s.attempts) (Fine (suc s.term) Candidate s.attempts)
              (λ e f. record { upto = omega (arith, f.upto); termed = f.termed; under = λ c. omega (arith, f.upto); made = λ l. absurd (cc l) }) s.log h.log_ok;
          sent_ok = sends s _ h (each_of FineMessage _ (others n i) (λ j. tt));
        })

    pub beat_named : Named (beat n i s)
    beat_named =
        cond_both (is_leader s.role) _ s Named
        (λ l. record {
          log_ok = h.log_ok;
          sent_ok = sends s (map (append_for i s) (others n i)) h
              (each_of FineMessage (append_for i s) (others n i)
              (λ j. each_take (Sendable s.term) batch_limit (drop (pred (item_or s.next j 0)) s.log) (each_drop (Sendable s.term) (pred (item_or s.next j 0)) s.log
              (each_map (Fine s.term s.role s.attempts) (Sendable s.term) (λ e f. record { upto = f.upto; termed = f.termed }) s.log h.log_ok))));
        })
        (λ l. h)

    raised_named : (t : ℕ) → Named (raised s t)
    raised_named t =
        cond_both (ltb s.term t) _ s Named
        (λ lt. record {
          log_ok = each_map (Fine s.term s.role s.attempts) (Fine t Follower s.attempts) (follows_fine s.term t s.role s.attempts s.attempts (let r = ltb-true s.term t lt in omega arith)) s.log h.log_ok;
          sent_ok = h.sent_ok;
        })
        (λ ge. h)

    forward_named : (b : B) → names b ≡ None → Named (on_forward s b)
    forward_named b none =
        cond_both (is_leader s.role && ltb (length s.log) entry_limit) (appending s b) s Named
        (λ q. record {
          log_ok = each_append (Fine s.term s.role s.attempts) s.log (record { term = s.term; body = b } ∷ []) h.log_ok (fine_new (and_parts (is_leader s.role) _ q).0, tt);
          sent_ok = h.sent_ok;
        })
        (λ q. h)
      where
        fine_new : is_leader s.role ≡ true → Fine s.term s.role s.attempts (record { term = s.term; body = b })
        fine_new l = record { upto = omega arith; termed = λ id e. absurd (cc (none, e)); under = λ c. absurd (not_both s.role l c); made = λ m same id e. absurd (cc (none, e)) }

    pub ask_named : (b : B) → names b ≡ None → Named (ask i s b)
    ask_named b none = cond_both (is_leader s.role) (on_forward s b) (forwarded i s b s.leader) Named (λ l. forward_named b none) (λ l. to_leader s.leader)
      where
        to_leader : (o : Option ℕ) → Named (forwarded i s b o)
        to_leader None = h
        to_leader (Some j) = record { log_ok = h.log_ok; sent_ok = sends s _ h (none, tt) }

    vote_named : (m : Message B) (granted : Bool) → Named (election.on_vote n s m.from m.term granted)
    vote_named m granted =
        cond_both (is_candidate s.role && (eqb s.term m.term && granted)) _ s Named
        (λ q. cond_both (majority n (with_item s.voters m.from true)) (leading n (record s { voters = with_item s.voters m.from true })) (record s { voters = with_item s.voters m.from true }) Named
        (λ k. record {
          log_ok = each_map (Fine s.term s.role s.attempts) (Fine s.term Leader s.attempts)
              (λ e f. record { upto = f.upto; termed = f.termed; under = λ c. absurd (cc c); made = λ l same. absurd (let r = f.under (and_parts (is_candidate s.role) _ q).0 in omega arith) }) s.log h.log_ok;
          sent_ok = h.sent_ok;
        })
        (λ k. record { log_ok = h.log_ok; sent_ok = h.sent_ok }))
        (λ q. h)

    pub restarted_named : Named (restarted n s)
    restarted_named =
        record { log_ok = each_map (Fine s.term s.role s.attempts) (Fine s.term Follower 0) (follows_fine s.term s.term s.role s.attempts 0 (omega arith)) s.log h.log_ok; sent_ok = h.sent_ok }

    pub applied_named : (k : ℕ) → Named (record s { applied = k })
    applied_named k = record { log_ok = h.log_ok; sent_ok = h.sent_ok }

  raised_over : (s : Node B) (t : ℕ) → t ≤ (raised s t).term
  raised_over s t = cond_both (ltb s.term t) _ s (λ z. t ≤ z.term) (λ h. omega arith) (λ h. ltb-false s.term t h)

  module _ (blank : B) (plain : names blank ≡ None) (n i : ℕ) where
    handled_named : (s : Node B) → Named s → (m : Message B) (k : Kind B) → m.term ≤ s.term → FineKind m.term k → Named (handled blank n i s m k)
    handled_named s h m (RequestVote l u) le ok =
        cond_both (grants s m.from m.term l u) _ _ Named
        (λ q. record { log_ok = h.log_ok; sent_ok = sends s _ h (tt, tt) })
        (λ q. record { log_ok = h.log_ok; sent_ok = sends s _ h (tt, tt) })
    handled_named s h m (Vote granted) le ok =
        cond_both (is_candidate s.role) (on_forward (election.on_vote n s m.from m.term granted) blank) s Named
        (λ c. forward_named n i (election.on_vote n s m.from m.term granted) (vote_named n i s h m granted) blank plain) (λ c. h)
    handled_named s h m (Append b) le ok =
        cond_both (ltb m.term s.term) _ _ Named
        (λ q. record { log_ok = h.log_ok; sent_ok = sends s _ h (tt, tt) })
        (λ q. cond_both (is_leader s.role) s _ Named (λ x. h)
        (λ x. cond_both (agrees_at s.log b.prev_index b.prev_term) _ _ Named
        (λ y. cond_both (conflicts_within (drop b.prev_index s.log) b.entries (s.commit - b.prev_index)) _ _ Named
        (λ z. record { log_ok = old; sent_ok = h.sent_ok })
        (λ z. record {
          log_ok = each_append fine (take b.prev_index s.log) (merged (drop b.prev_index s.log) b.entries) (each_take fine b.prev_index s.log old)
              (each_merged fine (drop b.prev_index s.log) b.entries (each_drop fine b.prev_index s.log old) (each_map (Sendable m.term) fine (λ e f. sent_follows m.term s.attempts e f s.term le) b.entries ok));
          sent_ok = sends s _ h (tt, tt);
        }))
        (λ y. record { log_ok = old; sent_ok = sends s _ h (tt, tt) })))
      where
        fine : Entry B → Type 0
        fine e = Fine s.term Follower s.attempts e

        old : Each (Fine s.term Follower s.attempts) s.log
        old = each_map (Fine s.term s.role s.attempts) (Fine s.term Follower s.attempts) (follows_fine s.term s.term s.role s.attempts s.attempts (omega arith)) s.log h.log_ok
    handled_named s h m (AppendReply o p) le ok =
        cond_both (is_leader s.role && (eqb s.term m.term && leb p (length s.log))) _ s Named
        (λ q. cond_both o (advanced n i (with_match s m.from p)) (stepped_back s m.from p) Named
        (λ d. record { log_ok = h.log_ok; sent_ok = h.sent_ok })
        (λ d. cond_both (eqb (item_or s.next m.from 0) (suc p)) _ s Named (λ e. record { log_ok = h.log_ok; sent_ok = h.sent_ok }) (λ e. h)))
        (λ q. h)
    handled_named s h m (Forward b) le ok = forward_named n i s h b ok

    pub message_named : (s : Node B) → Named s → (m : Message B) → FineMessage m → Named (on_message blank n i s m)
    message_named s h m ok =
        cond_both (is_heard n i m) (handled blank n i (raised s m.term) m m.kind) s Named
        (λ q. handled_named (raised s m.term) (raised_named n i s h m.term) m m.kind (raised_over s m.term) ok)
        (λ q. h)
