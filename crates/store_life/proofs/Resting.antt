-- A leader whose followers have its whole log, all of it committed and applied: after an append it is so again.
use Rattle.std.proofs.Common.{◌≡◌, ℕ, zero, suc, ◌+◌, ◌<◌, ◌≤◌, ◌==◌, ◌⊎◌, ⊎_elim, Bool, true, List, [], ◌∷◌, ◌++◌, map, length, Option, Some, nat_le, refl, sym, ap, subst, ◌∙◌, arith}
use Rattle.std.proofs.lemmas.Bool.{cases_lt, le-leb, lt-ltb}
use Rattle.std.proofs.lemmas.List.{take_all}
use Rattle.raft_log.specs.declared.entry.Entry.{Entry}
use Rattle.raft_log.specs.declared.node_state.Live.{Live}
use Rattle.raft_log.specs.Batches.{batch_limit}
use Rattle.raft_log.specs.Lists.{item, item_or, with_item}
use Rattle.raft_log.specs.Logs.{last_term, term_at}
use Rattle.raft_log.specs.Node.{Node}
use Rattle.raft_log.specs.Votes.{majority, tally}
use Rattle.replication.proofs.Committing.{place_none, place_yes}
use Rattle.raft_node.specs.Machine.{Machine}
use Rattle.raft_node.specs.Steps.{applied}
use Rattle.raft_node.proofs.Items.{length-with_item}
use Rattle.store_life.proofs.Lists.{item_or_other, item_or_with, one_or_two, same_number}
use Rattle.store_life.proofs.Reaching.{Reaches, go_on, here}
use Rattle.store_life.proofs.Rounds.{IsCounted, Keeps, Stage, one_caught_up}

positive : (k : ℕ) → (suc k ≡ 1 → ⊥) → 1 ≤ k
positive zero h = absurd (h refl)
positive (suc k) h = omega arith

-- for all items after the first
shifted : (x l : ℕ) (xs : List ℕ) → ((i : ℕ) → 1 ≤ i → i ≤ length (x ∷ xs) → l ≤ item_or (x ∷ xs) i 0) → (i : ℕ) → 1 ≤ i → i ≤ length xs → l ≤ item_or xs i 0
shifted x l xs f zero pos h = absurd (omega arith)
shifted x l xs f (suc i) pos h = f (suc (suc i)) (omega arith) (omega arith)

-- if all have matched a place, that many have
full : (xs : List ℕ) (l : ℕ) → ((i : ℕ) → 1 ≤ i → i ≤ length xs → l ≤ item_or xs i 0) → tally (map (λ m. nat_le l m) xs) ≡ length xs
full [] l f = refl
full (x ∷ xs) l f =
    let first : l ≤ x = f 1 (omega arith) (omega arith) in
    ap (λ (b : Bool). tally (b ∷ map (λ m. nat_le l m) xs)) (le-leb l x first) ∙ ap suc (full xs l (shifted x l xs f))

most : (size : ℕ) (xs : List ℕ) (l : ℕ) → 1 ≤ size → length xs ≡ size → ((i : ℕ) → 1 ≤ i → i ≤ length xs → l ≤ item_or xs i 0) → majority size (map (λ m. nat_le l m) xs) ≡ true
most size xs l pos long f =
    let n : tally (map (λ m. nat_le l m) xs) ≡ size = full xs l f ∙ long in
    lt-ltb size (tally (map (λ m. nat_le l m) xs) + tally (map (λ m. nat_le l m) xs)) (omega arith)

pub one_sent : 1 ≤ batch_limit
one_sent = omega arith

pub at_end : {A : Type 0} (xs : List A) (x : A) → item (xs ++ x ∷ []) (suc (length xs)) ≡ Some x
at_end [] x = refl
at_end (y ∷ xs) x = at_end xs x

module _ (M : Machine) (size : ℕ) (boot : ℕ → ℕ) (T : ℕ) where
  -- several more followers have the whole log
  pub all_caught_up : (live : Option Live) (attempts applied : ℕ) (log : List (Entry M.Body)) (n d m : ℕ) (w : List (Node M.Body)) → m + d ≡ n → suc n ≡ size
      → Stage M size boot T live attempts applied log m w → Reaches M w (Stage M size boot T live attempts applied log n)
  all_caught_up live attempts applied log n zero m w e f st =
      here M w (Stage M size boot T live attempts applied log n)
      (let same : m ≡ n = omega arith in subst (λ (x : ℕ). Stage M size boot T live attempts applied log x w) same st)
  all_caught_up live attempts applied log n (suc d) m w e f st =
      go_on M w (Stage M size boot T live attempts applied log (suc m)) (Stage M size boot T live attempts applied log n)
      (one_caught_up M size boot T live attempts applied log m w st (omega arith))
      (λ u p. all_caught_up live attempts applied log n d (suc m) u (omega arith) f p)

  module _ (live : Option Live) (attempts applied : ℕ) (log : List (Entry M.Body)) (n : ℕ) (w : List (Node M.Body)) (f : suc n ≡ size) (pos : 1 ≤ n) (some : 1 ≤ length log) (last : last_term log ≡ T)
      (st : Stage M size boot T live attempts applied log n w) where
    matched_at : (i : ℕ) → 1 ≤ i → i ≤ size → (i ≡ 1) ⊎ (i ≡ 1 → ⊥) → length log ≤ item_or (with_item st.lead.matched 1 (length log)) i 0
    matched_at i low high c =
        ⊎_elim
        (λ e. subst (λ (x : ℕ). length log ≤ item_or (with_item st.lead.matched 1 (length log)) x 0) (sym e)
        (let is : item_or (with_item st.lead.matched 1 (length log)) 1 0 ≡ length log = item_or_with st.lead.matched 1 (length log) 0 (omega arith) (omega (arith, st.matched_long)) in omega arith))
        (λ other. by_place i low high other)
        c
      where
        by_place : (i : ℕ) → 1 ≤ i → i ≤ size → (i ≡ 1 → ⊥) → length log ≤ item_or (with_item st.lead.matched 1 (length log)) i 0
        by_place zero low high other = absurd (omega arith)
        by_place (suc k) low high other =
            let kept : Keeps M size boot T log st.lead n k w = st.each k (positive k other) high in
            let same : item_or (with_item st.lead.matched 1 (length log)) (suc k) 0 ≡ item_or st.lead.matched (suc k) 0 = item_or_other st.lead.matched 1 (suc k) (length log) 0 other in
            let whole : kept.place ≡ length log = kept.whole (omega arith) in
            omega (arith, same, whole, kept.matched)

    long : length (with_item st.lead.matched 1 (length log)) ≡ size
    long = length-with_item st.lead.matched 1 (length log) ∙ st.matched_long

    have : majority size (map (λ m. nat_le (length log) m) (with_item st.lead.matched 1 (length log))) ≡ true
    have = most size (with_item st.lead.matched 1 (length log)) (length log) (omega arith) long (λ i low high. matched_at i low (omega (arith, long)) (one_or_two i 1))

    ends : (term_at log (length log) == T) ≡ true
    ends = ap (λ (l : List (Entry M.Body)). last_term l == T) (take_all (length log) log (omega arith)) ∙ ap (λ (x : ℕ). x == T) last ∙ same_number T

    -- all of the log is committed
    pub commit_is : st.lead.commit ≡ length log
    commit_is =
        let c : IsCounted M size boot T log st.lead = st.counted pos in
        let matches : List ℕ = with_item st.lead.matched 1 (length log) in
        c.found ∙ ⊎_elim
        (λ (lt : c.before < length log). place_yes size matches log T c.before (length log) lt (omega arith) ends have)
        (λ (le : length log ≤ c.before). place_none size matches log T c.before (length log) le ∙ (let e : c.before ≡ length log = omega (arith, c.low) in e))
        (cases_lt c.before (length log))
