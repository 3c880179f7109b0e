-- What an append leaves of a log, by the number of entries that are already there.
use Rattle.std.proofs.Common.{length-append, length-take, ◌≢◌, append-nil, false, get_or, take-append-drop, ◌<◌, ◌+◌, ◌≡◌, ℕ, zero, suc, ◌-◌, ◌≤◌, true, eqb, ltb, List, [], ◌∷◌, ◌++◌, length, take, drop, refl, sym, ap, ◌∙◌, arith, append_assoc, take-add, length-drop, ⊎_elim}
use Rattle.std.proofs.lemmas.List.{take_all}
use Rattle.std.proofs.lemmas.Bool.{cond_both, cases_Bool, cases_lt, lt-ltb, le-ltb, cond-true, cond-false}
use Rattle.raft_log.specs.declared.entry.Entry.{Entry}
use Rattle.raft_log.specs.Logs.{last_after, last_term, merged, repair, conflicts_within, standing}

module _ {B : Type 0} where
  pub standing_in : (rest es : List (Entry B)) → (standing rest es ≤ length rest) × (standing rest es ≤ length es)
  standing_in [] es = (omega arith, omega arith)
  standing_in (x ∷ rest) [] = (omega arith, omega arith)
  standing_in (x ∷ rest) (e ∷ es) =
      cond_both (eqb x.term e.term) (suc (standing rest es)) 0 (λ k. (k ≤ length (x ∷ rest)) × (k ≤ length (e ∷ es)))
      (λ h. let r = standing_in rest es in (omega (arith, r.0), omega (arith, r.1)))
      (λ h. (omega arith, omega arith))

  pub merged_all : (rest es : List (Entry B)) → standing rest es ≡ length es → merged rest es ≡ rest
  merged_all [] [] h = refl
  merged_all [] (e ∷ es) h = absurd (omega arith)
  merged_all (x ∷ rest) [] h = refl
  merged_all (x ∷ rest) (e ∷ es) h =
      ⊎_elim
      (λ t.
      let h' : suc (standing rest es) ≡ length (e ∷ es) = sym (cond-true (eqb x.term e.term) (suc (standing rest es)) 0 t) ∙ h in
      cond-true (eqb x.term e.term) (x ∷ merged rest es) (e ∷ es) t ∙ ap (λ z. x ∷ z) (merged_all rest es (omega arith)))
      (λ f. let h' : 0 ≡ length (e ∷ es) = sym (cond-false (eqb x.term e.term) (suc (standing rest es)) 0 f) ∙ h in absurd (omega arith))
      (cases_Bool (eqb x.term e.term))

  pub merged_part : (rest es : List (Entry B)) → standing rest es < length es → merged rest es ≡ take (standing rest es) rest ++ drop (standing rest es) es
  merged_part [] [] h = refl
  merged_part [] (e ∷ es) h = refl
  merged_part (x ∷ rest) [] h = absurd (omega arith)
  merged_part (x ∷ rest) (e ∷ es) h =
      ⊎_elim
      (λ t.
      let k : standing (x ∷ rest) (e ∷ es) ≡ suc (standing rest es) = cond-true (eqb x.term e.term) (suc (standing rest es)) 0 t in
      cond-true (eqb x.term e.term) (x ∷ merged rest es) (e ∷ es) t
      ∙ (ap (λ z. x ∷ z) (merged_part rest es (omega arith)) ∙ sym (ap (λ i. take i (x ∷ rest) ++ drop i (e ∷ es)) k)))
      (λ f.
      let k : standing (x ∷ rest) (e ∷ es) ≡ 0 = cond-false (eqb x.term e.term) (suc (standing rest es)) 0 f in
      cond-false (eqb x.term e.term) (x ∷ merged rest es) (e ∷ es) f ∙ sym (ap (λ i. take i (x ∷ rest) ++ drop i (e ∷ es)) k))
      (cases_Bool (eqb x.term e.term))

  pub conflicts_yes : (c : ℕ) (rest es : List (Entry B)) → standing rest es < length es → standing rest es < length rest → standing rest es < c → conflicts_within rest es c ≡ true
  conflicts_yes zero rest es a b h = absurd (omega arith)
  conflicts_yes (suc c) [] es a b h = absurd (omega arith)
  conflicts_yes (suc c) (x ∷ rest) [] a b h = absurd (omega arith)
  conflicts_yes (suc c) (x ∷ rest) (e ∷ es) a b h =
      ⊎_elim
      (λ t.
      let k : standing (x ∷ rest) (e ∷ es) ≡ suc (standing rest es) = cond-true (eqb x.term e.term) (suc (standing rest es)) 0 t in
      cond-true (eqb x.term e.term) (conflicts_within rest es c) true t ∙ conflicts_yes c rest es (omega arith) (omega arith) (omega arith))
      (λ f. cond-false (eqb x.term e.term) (conflicts_within rest es c) true f)
      (cases_Bool (eqb x.term e.term))

  pub conflicts_no : (c : ℕ) (rest es : List (Entry B)) → (standing rest es < length es → standing rest es < length rest → standing rest es < c → ⊥) → conflicts_within rest es c ≡ false
  conflicts_no zero rest es h = refl
  conflicts_no (suc c) [] es h = refl
  conflicts_no (suc c) (x ∷ rest) [] h = refl
  conflicts_no (suc c) (x ∷ rest) (e ∷ es) h =
      ⊎_elim
      (λ t.
      let k : standing (x ∷ rest) (e ∷ es) ≡ suc (standing rest es) = cond-true (eqb x.term e.term) (suc (standing rest es)) 0 t in
      cond-true (eqb x.term e.term) (conflicts_within rest es c) true t ∙ conflicts_no c rest es (λ a b d. h (omega arith) (omega arith) (omega arith)))
      (λ f.
      let k : standing (x ∷ rest) (e ∷ es) ≡ 0 = cond-false (eqb x.term e.term) (suc (standing rest es)) 0 f in
      absurd (h (omega arith) (omega arith) (omega arith)))
      (cases_Bool (eqb x.term e.term))

  -- whether one of the first c conflicts, by how many are already there
  pub conflicts_count : (log : List (Entry B)) (prev c : ℕ) (es : List (Entry B)) (count : ℕ) → count ≡ standing (drop prev log) es → count < length es → prev + count < length log → ltb count c ≡ conflicts_within (drop prev log) es c
  conflicts_count log prev c es count e few within =
      let short : count < length (drop prev log) = omega (arith, length-drop prev log) in
      ⊎_elim
      (λ lt. lt-ltb count c lt ∙ sym (conflicts_yes c (drop prev log) es (omega arith) (omega arith) (omega arith)))
      (λ ge. le-ltb count c ge ∙ sym (conflicts_no c (drop prev log) es (λ a b d. omega arith)))
      (cases_lt count c)

  pub conflicts_none : (log : List (Entry B)) (prev c : ℕ) (es : List (Entry B)) (count : ℕ) → count ≡ standing (drop prev log) es → (count < length es → prev + count < length log → ⊥) → false ≡ conflicts_within (drop prev log) es c
  conflicts_none log prev c es count e some_stands =
      sym (conflicts_no c (drop prev log) es (λ a b d. some_stands (omega arith) (omega (arith, b, length-drop prev log))))

  pub repair_all : (log : List (Entry B)) (prev : ℕ) (es : List (Entry B)) → standing (drop prev log) es ≡ length es → repair log prev es ≡ log
  repair_all log prev es h = ap (λ z. take prev log ++ z) (merged_all (drop prev log) es h) ∙ take-append-drop prev log

  pub repair_part : (log : List (Entry B)) (prev : ℕ) (es : List (Entry B)) → standing (drop prev log) es < length es → repair log prev es ≡ take (prev + standing (drop prev log) es) log ++ drop (standing (drop prev log) es) es
  repair_part log prev es h =
      ap (λ z. take prev log ++ z) (merged_part (drop prev log) es h)
      ∙ (sym (append_assoc (take prev log) _ _) ∙ ap (λ z. z ++ drop (standing (drop prev log) es) es) (sym (take-add prev (standing (drop prev log) es) log)))

  pub standing_none : (rest : List (Entry B)) → standing rest [] ≡ 0
  standing_none [] = refl
  standing_none (x ∷ rest) = refl

  last_after_take : (t : ℕ) (log : List (Entry B)) (j : ℕ) (d : Entry B) → j < length log → last_after t (take (suc j) log) ≡ (get_or log j d).term
  last_after_take t [] j d h = absurd (omega arith)
  last_after_take t (x ∷ log) zero d h = refl
  last_after_take t (x ∷ log) (suc j) d h = last_after_take x.term log j d (omega arith)

  pub term_at_index : (log : List (Entry B)) (k : ℕ) (d : Entry B) → 0 < k → k ≤ length log → (get_or log (k - 1) d).term ≡ last_term (take k log)
  term_at_index log k d pos h =
      let e : k ≡ suc (k - 1) = omega arith in
      sym (ap (λ i. last_term (take i log)) e ∙ last_after_take 0 log (k - 1) d (omega arith))

  -- what stays and what follows it: the whole log where all entries are already there, else the
  -- first ones stay
  pub repaired-whole : (log es : List (Entry B)) (prev count : ℕ) → count ≡ standing (drop prev log) es → count ≡ length es → take (length log) log ++ [] ≡ repair log prev es
  repaired-whole log es prev count e whole =
      append-nil (take (length log) log) ∙ (take_all (length log) log (omega arith) ∙ sym (repair_all log prev es (omega arith)))

  pub repaired-part : (log es : List (Entry B)) (prev count keep : ℕ) → count ≡ standing (drop prev log) es → count ≢ length es → count ≤ length es → keep ≡ prev + count → take keep log ++ drop count es ≡ repair log prev es
  repaired-part log es prev count keep e part few k =
      ap (λ (n : ℕ). take n log ++ drop count es) k
      ∙ (ap (λ (n : ℕ). take (prev + n) log ++ drop n es) e ∙ sym (repair_part log prev es (omega arith)))

  merged_long : (rest es : List (Entry B)) → length es ≤ length (merged rest es)
  merged_long [] [] = omega arith
  merged_long [] (e ∷ es) = omega arith
  merged_long (x ∷ rest) [] = omega arith
  merged_long (x ∷ rest) (e ∷ es) =
      cond_both (eqb x.term e.term) (x ∷ merged rest es) (e ∷ es) (λ z. length (e ∷ es) ≤ length z) (λ t. omega (arith, merged_long rest es)) (λ f. omega arith)

  -- a repaired log reaches as far as the entries
  pub repair_long : (log : List (Entry B)) (prev : ℕ) (es : List (Entry B)) → prev ≤ length log → prev + length es ≤ length (repair log prev es)
  repair_long log prev es le =
      omega (arith, length-append (take prev log) (merged (drop prev log) es), length-take prev log, merged_long (drop prev log) es)
