-- How a node asks for votes, gives its vote, and counts those that it got.
use Rattle.std.proofs.Common.{◌≡◌, ℕ, zero, suc, ◌+◌, ◌<◌, ◌≤◌, Bool, true, false, ◌&&◌, ◌||◌, not, eqb, ltb, leb, List, [], ◌∷◌, ◌++◌, length, replicate, get_or, Some, None, refl, sym, ap, subst, ◌∙◌, arith, inl, inr, ◌⊎◌, ⊎_elim}
use Rattle.std.specs.Prelude.{◌^◌}
use Rattle.std.proofs.Math.ListN.{length-replicate}
use Rattle.std.proofs.lemmas.Bool.{cond-true, cond-false, cond_both, eq-eqb, lt-ltb, le-ltb, le-leb, lt-leb, ltb-true, ltb-false}
use Rattle.raft_log.specs.declared.entry.Entry.{Entry}
use Rattle.raft_log.specs.declared.message.Kind.TheVariants.{RequestVote, Vote}
use Rattle.raft_log.specs.declared.message.Message.{Message}
use Rattle.raft_log.specs.declared.role.Role.TheVariants.{Follower, Candidate, Leader}
use Rattle.raft_log.specs.Lists.{with_item}
use Rattle.raft_log.specs.Logs.{entry_limit, last_term, up_to_date}
use Rattle.raft_log.specs.Node.{Node, is_leader, is_candidate, message, raised}
use Rattle.raft_log.specs.Votes.{tally, majority}
use Rattle.election.specs.Elections.{asking, timed_out, on_request_vote, leading, elected}
use Rattle.replication.specs.Replication.{appending, on_forward, on_vote}
use Rattle.node_steps.specs.Messages.{is_heard, handled, on_message}
use Rattle.raft_node.specs.Machine.{Machine}
use Rattle.raft_node.specs.Steps.{Expires, quiet, refused, turn}
use Rattle.node_steps.specs.declared.refusal.Refusal.TheVariants.{TermsSpent}
use Rattle.raft_node.proofs.Items.{item-with_cases, length-with_item}
use Rattle.agreement.specs.Laws.{IsIn}
use Rattle.progress.proofs.Places.{eqb_no, written_here}

pub both_true : (x y : Bool) → x ≡ true → y ≡ true → (x && y) ≡ true
both_true true true a b = refl
both_true true false a b = absurd (cc b)
both_true false y a b = absurd (cc a)

pub first_false : (x y : Bool) → x ≡ false → (x && y) ≡ false
first_false true y a = absurd (cc a)
first_false false y a = refl

pub second_false : (x y : Bool) → y ≡ false → (x && y) ≡ false
second_false true y a = a
second_false false y a = refl

pub neither : (x y : Bool) → x ≡ false → y ≡ false → (x || y) ≡ false
neither true y a b = absurd (cc a)
neither false true a b = absurd (cc b)
neither false false a b = refl

pub not_false : (x : Bool) → x ≡ false → not x ≡ true
not_false true a = absurd (cc a)
not_false false a = refl

-- sets

tally_within : (us vs : List Bool) → length us ≡ length vs → ((k : ℕ) → get_or us k false ≡ true → get_or vs k false ≡ true) → tally us ≤ tally vs
tally_within [] vs e h = omega arith
tally_within (a ∷ us) [] e h = absurd (omega arith)
tally_within (true ∷ us) (true ∷ vs) e h = let r = tally_within us vs (omega arith) (λ k. h (suc k)) in omega arith
tally_within (true ∷ us) (false ∷ vs) e h = absurd (cc (h 0 refl))
tally_within (false ∷ us) (true ∷ vs) e h = let r = tally_within us vs (omega arith) (λ k. h (suc k)) in omega arith
tally_within (false ∷ us) (false ∷ vs) e h = tally_within us vs (omega arith) (λ k. h (suc k))

pub majority_grows : (n : ℕ) (us vs : List Bool) → length us ≡ length vs → ((k : ℕ) → IsIn us k → IsIn vs k) → majority n us ≡ true → majority n vs ≡ true
majority_grows n us vs e h m =
    let a = ltb-true n (tally us + tally us) m in
    let r = tally_within us vs e (λ k. h (suc k)) in
    lt-ltb n (tally vs + tally vs) (omega arith)

tally_none : (n : ℕ) → tally (replicate n false) ≤ 0
tally_none zero = omega arith
tally_none (suc n) = tally_none n

tally_one : (n c : ℕ) → tally (with_item (replicate n false) (suc c) true) ≤ 1
tally_one zero c = omega arith
tally_one (suc n) zero = let r = tally_none n in omega arith
tally_one (suc n) (suc c) = tally_one n c

pub one_is_few : (n c : ℕ) → 2 ≤ n → 1 ≤ c → majority n (with_item (replicate n false) c true) ≡ false
one_is_few n zero h low = absurd (omega arith)
one_is_few n (suc c) h low = let r = tally_one n c in le-ltb n _ (omega arith)

module _ {B : Type 0} where
  pub raised_up : (s : Node B) (t : ℕ) → s.term < t → raised s t ≡ record s { term = t; vote = None; role = Follower; leader = None; live = None }
  raised_up s t h = cond-true (ltb s.term t) _ s (lt-ltb s.term t h)

  pub raised_same : (s : Node B) (t : ℕ) → t ≤ s.term → raised s t ≡ s
  raised_same s t h = cond-false (ltb s.term t) _ s (le-ltb s.term t h)

  -- a message from another node of the group is heard
  pub hears_other : (n i : ℕ) (m : Message B) → m.to ≡ i → (m.from ≡ i → ⊥) → 1 ≤ m.from → m.from ≤ n → is_heard n i m ≡ true
  hears_other n i m to ne low high =
      both_true (eqb m.to i) _ (eq-eqb m.to i to)
      (both_true (not (eqb m.from i)) _ (not_false (eqb m.from i) (eqb_no m.from i ne))
      (both_true (leb 1 m.from) (leb m.from n) (le-leb 1 m.from low) (le-leb m.from n high)))

  pub heard_as : (blank : B) (n i : ℕ) (s : Node B) (m : Message B) → m.to ≡ i → (m.from ≡ i → ⊥) → 1 ≤ m.from → m.from ≤ n
      → on_message blank n i s m ≡ handled blank n i (raised s m.term) m m.kind
  heard_as blank n i s m to ne low high = cond-true (is_heard n i m) (handled blank n i (raised s m.term) m m.kind) s (hears_other n i m to ne low high)

  pub raised_sent : (s : Node B) (t : ℕ) → (raised s t).sent ≡ s.sent
  raised_sent s t = cond_both (ltb s.term t) _ s (λ z. z.sent ≡ s.sent) (λ h. refl) (λ h. refl)

  -- one that knows its leader was not raised
  pub raised_known : (s : Node B) (t c : ℕ) → (raised s t).leader ≡ Some c → raised s t ≡ s
  raised_known s t c = cond_both (ltb s.term t) _ s (λ z. z.leader ≡ Some c → z ≡ s) (λ h k. absurd (cc k)) (λ h k. refl)

  raised_above : (s : Node B) (t : ℕ) → t ≤ (raised s t).term
  raised_above s t = cond_both (ltb s.term t) _ s (λ z. t ≤ z.term) (λ h. omega arith) (λ h. ltb-false s.term t h)

  -- a message is heard as by a node that was raised to its term before
  pub heard_raised : (blank : B) (n i t : ℕ) (s : Node B) (m : Message B) → m.term ≡ t → m.to ≡ i → (m.from ≡ i → ⊥) → 1 ≤ m.from → m.from ≤ n
      → on_message blank n i s m ≡ on_message blank n i (raised s t) m
  heard_raised blank n i t s m same to ne low high =
      heard_as blank n i s m to ne low high
      ∙ (ap (λ z. handled blank n i (raised s z) m m.kind) same
      ∙ (ap (λ z. handled blank n i z m m.kind) (sym (raised_same (raised s t) m.term (omega (arith, raised_above s t))))
      ∙ sym (heard_as blank n i (raised s t) m to ne low high)))

  -- a node that gave its vote in a later term
  abbrev pub voted : ℕ → ℕ → ℕ → Node B → Node B
  voted t c j s =
      record s { term = t; vote = Some c; role = Follower; leader = None; live = None; sent = s.sent ++ message t j c (Vote true) ∷ [] }

  pub votes : (blank : B) (n t c j index last : ℕ) (s : Node B) → 1 ≤ c → c ≤ n → (c ≡ j → ⊥) → s.term < t
      → up_to_date last index (last_term s.log) (length s.log) ≡ true
      → on_message blank n j s (message t c j (RequestVote index last)) ≡ voted t c j s
  votes blank n t c j index last s low high ne lt good =
      heard_as blank n j s (message t c j (RequestVote index last)) refl ne low high
      ∙ (ap (λ z. on_request_vote j z c t index last) (raised_up s t lt)
      ∙ cond-true _ _ _ (both_true (eqb t t) _ (eq-eqb t t refl) good))

  -- a node that asks for votes, and has no majority yet
  pub record Asks (n t b : ℕ) (log : List (Entry B)) (sent : List (Message B)) (s : Node B) : Type 0 where
    pub role_is : s.role ≡ Candidate
    pub term_is : s.term ≡ t
    pub boot_is : s.boot ≡ b
    pub log_is : s.log ≡ log
    pub commit_in : s.commit ≤ length log
    pub applied_in : s.applied ≤ length log
    pub voters_length : length s.voters ≡ n
    pub few : majority n s.voters ≡ false
    pub sent_is : s.sent ≡ sent

  -- a node that leads anew
  pub record LeadsNow (blank : B) (n t b : ℕ) (log : List (Entry B)) (sent : List (Message B)) (s : Node B) : Type 0 where
    pub role_is : s.role ≡ Leader
    pub term_is : s.term ≡ t
    pub boot_is : s.boot ≡ b
    pub log_is : s.log ≡ log ++ record { term = t; body = blank } ∷ []
    pub commit_in : s.commit ≤ length log
    pub applied_in : s.applied ≤ length log
    pub next_is : s.next ≡ replicate n (suc (length log))
    pub matched_is : s.matched ≡ replicate n 0
    pub sent_is : s.sent ≡ sent

  -- it leads, or has the votes of all of these so far
  abbrev pub Stands : (blank : B) (n t b : ℕ) (log : List (Entry B)) (sent : List (Message B)) → (ℕ → Type 0) → Node B → Type 0
  Stands blank n t b log sent P s =
      (Asks n t b log sent s × ((k : ℕ) → P k → IsIn s.voters k)) ⊎ LeadsNow blank n t b log sent s

  module _ (blank : B) (n t b : ℕ) (log : List (Entry B)) (sent : List (Message B)) where
    hears_vote : (c j : ℕ) (s : Node B) → s.term ≡ t → (j ≡ c → ⊥) → 1 ≤ j → j ≤ n
        → on_message blank n c s (message t j c (Vote true)) ≡ on_vote blank n s j t true
    hears_vote c j s same ne low high =
        heard_as blank n c s (message t j c (Vote true)) refl ne low high ∙ ap (λ z. on_vote blank n z j t true) (raised_same s t (omega arith))

    counted : (j : ℕ) (s : Node B) → s.term ≡ t → s.role ≡ Candidate
        → on_vote blank n s j t true ≡ on_forward (elected n (record s { voters = with_item s.voters j true })) blank
    counted j s same role =
        let cand : is_candidate s.role ≡ true = ap is_candidate role in
        cond-true (is_candidate s.role) _ s cand
        ∙ ap (λ z. on_forward z blank)
        (cond-true _ (elected n (record s { voters = with_item s.voters j true })) s
        (both_true (is_candidate s.role) _ cand (both_true (eqb s.term t) true (eq-eqb s.term t same) refl)))

    -- with one more vote it leads, or goes on
    elects : (P Q : ℕ → Type 0) (j : ℕ) (s : Node B) → length log < entry_limit → 1 ≤ j → j ≤ n → Asks n t b log sent s → ((k : ℕ) → P k → IsIn s.voters k) → ((k : ℕ) → Q k → P k ⊎ (k ≡ j))
        → Stands blank n t b log sent Q (on_forward (elected n (record s { voters = with_item s.voters j true })) blank)
    elects P Q j s room low high a has more =
        cond_both (majority n s1.voters) (leading n s1) s1 (λ z. Stands blank n t b log sent Q (on_forward z blank))
        (λ yes. inr (subst (λ z. LeadsNow blank n t b log sent z) (sym led) leads))
        (λ short. inl (subst (λ z. Asks n t b log sent z × ((k : ℕ) → Q k → IsIn z.voters k)) (sym (on short)) (goes short, (λ k q. in_voters k (more k q)))))
      where
        s1 : Node B
        s1 = record s { voters = with_item s.voters j true }

        led : on_forward (leading n s1) blank ≡ appending (leading n s1) blank
        led = cond-true _ _ _ (both_true true (ltb (length s.log) entry_limit) refl (lt-ltb (length s.log) entry_limit (subst (λ z. length z < entry_limit) (sym a.log_is) room)))

        leads : LeadsNow blank n t b log sent (appending (leading n s1) blank)
        leads =
            record {
              role_is = refl;
              term_is = a.term_is;
              boot_is = a.boot_is;
              log_is = ap (λ z. z ++ record { term = s.term; body = blank } ∷ []) a.log_is ∙ ap (λ z. log ++ record { term = z; body = blank } ∷ []) a.term_is;
              commit_in = a.commit_in;
              applied_in = a.applied_in;
              next_is = ap (λ (z : List (Entry B)). replicate n (suc (length z))) a.log_is;
              matched_is = refl;
              sent_is = a.sent_is;
            }

        on : majority n s1.voters ≡ false → on_forward s1 blank ≡ s1
        on short = cond-false _ _ _ (first_false (is_leader s.role) _ (ap is_leader a.role_is))

        goes : majority n s1.voters ≡ false → Asks n t b log sent s1
        goes short =
            record {
              role_is = a.role_is;
              term_is = a.term_is;
              boot_is = a.boot_is;
              log_is = a.log_is;
              commit_in = a.commit_in;
              applied_in = a.applied_in;
              voters_length = length-with_item s.voters j true ∙ a.voters_length;
              few = short;
              sent_is = a.sent_is;
            }

        in_voters : (k : ℕ) → P k ⊎ (k ≡ j) → IsIn (with_item s.voters j true) k
        in_voters k (inl p) =
            ⊎_elim (λ h. h.1) (λ h. h ∙ has k p) (item-with_cases s.voters j k true false)
        in_voters k (inr e) =
            subst (λ z. IsIn (with_item s.voters j true) z) (sym e) (written_here s.voters j true false low (omega (arith, a.voters_length)))

    pub counts : (P Q : ℕ → Type 0) (c j : ℕ) (s : Node B) → length log < entry_limit → (j ≡ c → ⊥) → 1 ≤ j → j ≤ n → ((k : ℕ) → Q k → P k ⊎ (k ≡ j))
        → Stands blank n t b log sent P s → Stands blank n t b log sent Q (on_message blank n c s (message t j c (Vote true)))
    counts P Q c j s room ne low high more (inl a) =
        subst (λ z. Stands blank n t b log sent Q z) (sym (hears_vote c j s a.0.term_is ne low high ∙ counted j s a.0.term_is a.0.role_is))
        (elects P Q j s room low high a.0 a.1 more)
    counts P Q c j s room ne low high more (inr l) =
        subst (λ z. Stands blank n t b log sent Q z)
        (sym (hears_vote c j s l.term_is ne low high ∙ cond-false (is_candidate s.role) _ s (ap is_candidate l.role_is))) (inr l)

  -- a node that is about to ask for votes
  pub record Waits (t b : ℕ) (log : List (Entry B)) (s : Node B) : Type 0 where
    pub role_is : is_leader s.role ≡ false
    pub term_is : s.term ≡ t
    pub boot_is : s.boot ≡ b
    pub log_is : s.log ≡ log
    pub commit_in : s.commit ≤ length log
    pub applied_in : s.applied ≤ length log

  pub asks_on : (n c t b : ℕ) (log : List (Entry B)) (s : Node B) → Waits t b log s → Waits (suc t) b log (asking n c s)
  asks_on n c t b log s h =
      record { role_is = refl; term_is = ap suc h.term_is; boot_is = h.boot_is; log_is = h.log_is; commit_in = h.commit_in; applied_in = h.applied_in }

  pub asks_first : (n c t b : ℕ) (log : List (Entry B)) (s : Node B) → 2 ≤ n → 1 ≤ c → Waits t b log s → Asks n (suc t) b log (asking n c s).sent (asking n c s)
  asks_first n c t b log s two low h =
      record {
        role_is = refl;
        term_is = ap suc h.term_is;
        boot_is = h.boot_is;
        log_is = h.log_is;
        commit_in = h.commit_in;
        applied_in = h.applied_in;
        voters_length = length-with_item (replicate n false) c true ∙ length-replicate n false;
        few = one_is_few n c two low;
        sent_is = refl;
      }

  pub own_vote : (n c : ℕ) (s : Node B) → 1 ≤ c → c ≤ n → IsIn (asking n c s).voters c
  own_vote n c s low high = written_here (replicate n false) c true false low (omega (arith, length-replicate {A = Bool} n false))

module _ (M : Machine) where
  pub expires : (n c : ℕ) (s : Node M.Body) → is_leader s.role ≡ false → s.term < 2 ^ 60 → (turn M n c Expires s).node ≡ asking n c s
  expires n c s role lt =
      let small : leb (2 ^ 60) s.term ≡ false = lt-leb (2 ^ 60) s.term lt in
      ap (λ z. z.node) (cond-false (not (is_leader s.role) && leb (2 ^ 60) s.term) (refused M s TermsSpent) (quiet M (timed_out n c s)) (second_false (not (is_leader s.role)) (leb (2 ^ 60) s.term) small))
      ∙ cond-false (is_leader s.role || leb (2 ^ 60) s.term) s (asking n c s) (neither (is_leader s.role) (leb (2 ^ 60) s.term) role small)
