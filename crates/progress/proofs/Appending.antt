-- A leader's append at a node that follows, and what the answer does to the leader.
use Rattle.std.proofs.Common.{◌≡◌, ℕ, zero, suc, pred, ◌+◌, ◌-◌, ◌<◌, ◌≤◌, Bool, true, false, ◌&&◌, cond, eqb, ltb, min, max, List, [], ◌∷◌, ◌++◌, length, map, get_or, take, drop, Some, refl, sym, ap, subst, ◌∙◌, arith, ◌⊎◌, ⊎_elim}
use Rattle.std.proofs.lemmas.Bool.{cond-true, cond-false, cond_both, eq-eqb, lt-ltb, le-ltb, le-leb, cases_lt}
use Rattle.raft_log.specs.declared.entry.Entry.{Entry}
use Rattle.raft_log.specs.declared.message.Kind.TheVariants.{Append, AppendReply}
use Rattle.raft_log.specs.declared.message.Message.{Message}
use Rattle.raft_log.specs.declared.role.Role.TheVariants.{Follower, Leader}
use Rattle.raft_log.specs.Batches.{batch, batch_limit}
use Rattle.raft_log.specs.Lists.{item_or, with_item}
use Rattle.raft_log.specs.Logs.{term_at, agrees_at, conflicts_within}
use Rattle.raft_log.specs.Node.{Node, is_leader, message}
use Rattle.raft_log.specs.Votes.{commits, commit_place}
use Rattle.replication.specs.Replication.{reply, accepted, on_append, with_match, advanced, stepped_back, on_append_reply}
use Rattle.node_steps.specs.Messages.{on_message}
use Rattle.agreement.specs.World.{Begins}
use Rattle.agreement.specs.Laws.{IsIn}
use Rattle.progress.proofs.Voting.{both_true, first_false, raised_same, heard_as}
use Rattle.progress.proofs.Alike.{AreAlike, Has, has_less, has_agrees, up_to_in, taken, up_to, clear, taken_has, taken_keeps, taken_alike, taken_short}

-- what is committed

module _ {B : Type 0} (n : ℕ) (matches : List ℕ) (log : List (Entry B)) (t : ℕ) where
  pub place_within : (c k top : ℕ) → c ≤ top → k ≤ top → commit_place n matches log t c k ≤ top
  place_within c zero top lc lk = lc
  place_within c (suc k) top lc lk =
      cond_both (ltb c (suc k) && commits n matches log t (suc k)) (suc k) _ (λ z. z ≤ top) (λ h. lk) (λ h. place_within c k top lc (omega arith))

  pub place_stuck : (c k : ℕ) → k ≤ c → commit_place n matches log t c k ≡ c
  place_stuck c zero le = refl
  place_stuck c (suc k) le =
      cond-false (ltb c (suc k) && commits n matches log t (suc k)) (suc k) _ (first_false (ltb c (suc k)) _ (le-ltb c (suc k) le)) ∙ place_stuck c k (omega arith)

  pub place_full : (c k : ℕ) → c ≤ k → commits n matches log t k ≡ true → commit_place n matches log t c k ≡ k
  place_full c zero le h = let e : c ≡ 0 = omega arith in e
  place_full c (suc k) le h =
      ⊎_elim
      (λ lt. cond-true (ltb c (suc k) && commits n matches log t (suc k)) (suc k) _ (both_true (ltb c (suc k)) _ (lt-ltb c (suc k) lt) h))
      (λ ge. let e : c ≡ suc k = omega arith in place_stuck c (suc k) ge ∙ e)
      (cases_lt c (suc k))

map_get : (f : ℕ → Bool) (xs : List ℕ) (k : ℕ) → k < length xs → f (get_or xs k 0) ≡ true → get_or (map f xs) k false ≡ true
map_get f [] k h e = absurd (omega arith)
map_get f (x ∷ xs) zero h e = e
map_get f (x ∷ xs) (suc k) h e = map_get f xs k (omega arith) e

pub map_length : (f : ℕ → Bool) (xs : List ℕ) → length (map f xs) ≡ length xs
map_length f [] = refl
map_length f (x ∷ xs) = ap suc (map_length f xs)

pub is_in_map : (f : ℕ → Bool) (xs : List ℕ) (k : ℕ) → 1 ≤ k → k ≤ length xs → f (item_or xs k 0) ≡ true → IsIn (map f xs) k
is_in_map f xs zero low high e = absurd (omega arith)
is_in_map f xs (suc k) low high e = map_get f xs k high e

module _ {B : Type 0} where
  -- a node of the set follows in this term, with a log that may be taken to the leader's
  pub record Follows (T : ℕ) (L : List (Entry B)) (b most : ℕ) (t : Node B) : Type 0 where
    pub term_is : t.term ≡ T
    pub role_is : is_leader t.role ≡ false
    pub boot_is : t.boot ≡ b
    pub applied_in : t.applied ≤ most
    pub alike : AreAlike t.log L
    pub short : Begins L t.log → t.log ≡ L
    pub commit_in : t.commit ≤ length L
    pub commit_has : Has t.commit t.log L

  -- the leader of it
  pub record Leading (n T : ℕ) (L : List (Entry B)) (b most : ℕ) (s : Node B) : Type 0 where
    pub role_is : s.role ≡ Leader
    pub term_is : s.term ≡ T
    pub boot_is : s.boot ≡ b
    pub applied_in : s.applied ≤ most
    pub log_is : s.log ≡ L
    pub commit_in : s.commit ≤ length L
    pub next_long : length s.next ≡ n
    pub matched_long : length s.matched ≡ n

  -- what the leader keeps of a node is this
  pub record Linked (L : List (Entry B)) (next matched : ℕ) (P : List (Entry B)) : Type 0 where
    pub next_low : 1 ≤ next
    pub next_high : next ≤ suc (length L)
    pub matched_in : matched ≤ length L
    pub matched_has : Has matched P L

  -- the leader knows that a node has its log
  abbrev pub Done : List (Entry B) → ℕ → ℕ → Type 0
  Done L next matched = (length L ≤ matched) × (length L < next)

  -- this many exchanges, and it knows
  abbrev pub Near : ℕ → List (Entry B) → ℕ → ℕ → List (Entry B) → Type 0
  Near k L next matched P =
      Done L next matched ⊎ (((1 ≤ k) × Has (pred next) P L × (length L ≤ pred next + k)) ⊎ (pred next + length L < k))

  -- what a leader sends to a node
  abbrev pub append_to : ℕ → ℕ → ℕ → List (Entry B) → ℕ → ℕ → Message B
  append_to T c j L y commit = message T c j (Append (batch y (term_at L y) (take batch_limit (drop y L)) commit))

  module _ (blank : B) (n c j T : ℕ) (L : List (Entry B)) (b most : ℕ) (low_c : 1 ≤ c) (high_c : c ≤ n) (low : 1 ≤ j) (high : j ≤ n) (ne : j ≡ c → ⊥) where
    -- at the node

    module _ (t : Node B) (f : Follows T L b most t) (y commit : ℕ) (in_l : y ≤ length L) where
      abbrev leader_known : Node B
      leader_known = record t { role = Follower; leader = Some c }

      hears : on_message blank n j t (append_to T c j L y commit) ≡ accepted j leader_known c y (term_at L y) (take batch_limit (drop y L)) commit
      hears =
          heard_as blank n j t (append_to T c j L y commit) refl (λ e. ne (sym e)) low_c high_c
          ∙ (ap (λ z. on_append j z c T y (term_at L y) (take batch_limit (drop y L)) commit) (raised_same t T (omega (arith, f.term_is)))
          ∙ (cond-false (ltb T t.term) _ _ (le-ltb T t.term (omega (arith, f.term_is)))
          ∙ cond-false (is_leader t.role) t _ f.role_is))

      abbrev pub takes_it : Has y t.log L → Node B
      takes_it has =
          record leader_known {
            log = taken t.log L y batch_limit in_l has;
            commit = max t.commit (min commit (up_to t.log L y batch_limit in_l has));
            sent = t.sent ++ reply t.term j c true (up_to t.log L y batch_limit in_l has) ∷ [];
          }

      pub takes : (has : Has y t.log L) → on_message blank n j t (append_to T c j L y commit) ≡ takes_it has
      takes has =
          hears
          ∙ (cond-true (agrees_at t.log y (term_at L y)) _ _ (has_agrees y t.log L in_l has)
          ∙ cond-false (conflicts_within (drop y t.log) (take batch_limit (drop y L)) (t.commit - y)) _ _ (clear t.log L y batch_limit in_l has t.commit f.commit_in f.commit_has))

      abbrev pub declines_it : Node B
      declines_it = record leader_known { sent = t.sent ++ reply t.term j c false y ∷ [] }

      pub declines : agrees_at t.log y (term_at L y) ≡ false → on_message blank n j t (append_to T c j L y commit) ≡ declines_it
      declines no_way = hears ∙ cond-false (agrees_at t.log y (term_at L y)) _ _ no_way

      pub takes_follows : (has : Has y t.log L) → Follows T L b most (takes_it has)
      takes_follows has =
          record {
            term_is = f.term_is;
            role_is = refl;
            boot_is = f.boot_is;
            applied_in = f.applied_in;
            alike = taken_alike t.log L y batch_limit in_l has f.alike;
            short = taken_short t.log L y batch_limit in_l has f.alike f.short;
            commit_in = omega (arith, f.commit_in, up_to_in t.log L y batch_limit in_l has);
            commit_has = ⊎_elim
                (λ lt. let e : min commit u ≡ max t.commit (min commit u) = omega arith in
                subst (λ z. Has z log' L) e (has_less u (min commit u) log' L (omega arith) (up_to_in t.log L y batch_limit in_l has) (taken_has t.log L y batch_limit in_l has f.alike)))
                (λ ge. let e : t.commit ≡ max t.commit (min commit u) = omega arith in
                subst (λ z. Has z log' L) e (taken_keeps t.log L y batch_limit in_l has f.alike t.commit f.commit_in f.commit_has))
                (cases_lt t.commit (min commit u));
          }
        where
          u : ℕ
          u = up_to t.log L y batch_limit in_l has

          log' : List (Entry B)
          log' = taken t.log L y batch_limit in_l has

      pub declines_follows : Follows T L b most declines_it
      declines_follows =
          record {
            term_is = f.term_is;
            role_is = refl;
            boot_is = f.boot_is;
            applied_in = f.applied_in;
            alike = f.alike;
            short = f.short;
            commit_in = f.commit_in;
            commit_has = f.commit_has;
          }

    -- at the leader, after what it sent

    module _ (s : Node B) (l : Leading n T L b most s) (from_term : ℕ) (same : from_term ≡ T) where
      reply_heard : (ok : Bool) (place : ℕ) → place ≤ length L → on_message blank n c s (message from_term j c (AppendReply ok place))
          ≡ cond ok (advanced n c (with_match s j place)) (stepped_back s j place)
      reply_heard ok place le =
          heard_as blank n c s (message from_term j c (AppendReply ok place)) refl ne low high
          ∙ (ap (λ z. on_append_reply n c z j from_term ok place) (raised_same s from_term (omega (arith, l.term_is)))
          ∙ cond-true _ _ s
          (both_true (is_leader s.role) _ (ap is_leader l.role_is)
          (both_true (eqb s.term from_term) _ (eq-eqb s.term from_term (l.term_is ∙ sym same)) (le-leb place (length s.log) (subst (λ z. place ≤ length z) (sym l.log_is) le)))))

      pub gains : (place : ℕ) → place ≤ length L → on_message blank n c s (message from_term j c (AppendReply true place)) ≡ advanced n c (with_match s j place)
      gains place le = reply_heard true place le

      pub goes_back : (y : ℕ) → y ≤ length L → item_or s.next j 0 ≡ suc y
          → on_message blank n c s (message from_term j c (AppendReply false y)) ≡ record s { next = with_item s.next j (max 1 y) }
      goes_back y le at = reply_heard false y le ∙ cond-true (eqb (item_or s.next j 0) (suc y)) _ s (eq-eqb _ _ at)
