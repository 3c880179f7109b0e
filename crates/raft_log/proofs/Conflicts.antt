-- A repair by the first entry that conflicts.
use Rattle.std.proofs.Common.{◌≡◌, ℕ, zero, suc, ◌+◌, ◌-◌, ◌≤◌, true, false, eqb, List, [], ◌∷◌, ◌++◌, ⊎_elim, length, take, drop, refl, sym, ap, subst, arith, ◌∙◌, append_assoc, take-append-drop, take-add, length-drop}
use Rattle.std.proofs.lemmas.Bool.{cases_Bool, cases_lt, cond-true, cond-false, true≢false}
use Rattle.std.proofs.lemmas.List.{append-nil, length-take, take_at, drop_at, take-append-le}
use Rattle.raft_log.specs.declared.entry.Entry.{Entry}
use Rattle.raft_log.specs.Logs.{merged, repair, conflicts_within}

module _ {B : Type 0} where
  merged-added : (rest es : List (Entry B)) → conflicts_within rest es (length es) ≡ false → merged rest es ≡ rest ++ drop (length rest) es
  merged-added [] [] h = refl
  merged-added [] (e ∷ es) h = refl
  merged-added (x ∷ rest) [] h = sym (append-nil (x ∷ rest))
  merged-added (x ∷ rest) (e ∷ es) h =
      ⊎_elim
      (λ t.
      let h' : conflicts_within rest es (length es) ≡ false = sym (cond-true (eqb x.term e.term) (conflicts_within rest es (length es)) true t) ∙ h in
      cond-true (eqb x.term e.term) (x ∷ merged rest es) (e ∷ es) t ∙ ap (λ (z : List (Entry B)). x ∷ z) (merged-added rest es h'))
      (λ f. absurd (true≢false (sym (cond-false (eqb x.term e.term) (conflicts_within rest es (length es)) true f) ∙ h)))
      (cases_Bool (eqb x.term e.term))

  merged-cut : (k : ℕ) (rest es : List (Entry B)) → conflicts_within rest es k ≡ false → conflicts_within rest es (suc k) ≡ true → merged rest es ≡ take k rest ++ drop k es
  merged-cut k [] es h c = absurd (true≢false (sym c))
  merged-cut k (x ∷ rest) [] h c = absurd (true≢false (sym c))
  merged-cut zero (x ∷ rest) (e ∷ es) h c =
      ⊎_elim
      (λ t. absurd (true≢false (sym c ∙ cond-true (eqb x.term e.term) false true t)))
      (λ f. cond-false (eqb x.term e.term) (x ∷ merged rest es) (e ∷ es) f)
      (cases_Bool (eqb x.term e.term))
  merged-cut (suc k) (x ∷ rest) (e ∷ es) h c =
      ⊎_elim
      (λ t.
      let h' : conflicts_within rest es k ≡ false = sym (cond-true (eqb x.term e.term) (conflicts_within rest es k) true t) ∙ h in
      let c' : conflicts_within rest es (suc k) ≡ true = sym (cond-true (eqb x.term e.term) (conflicts_within rest es (suc k)) true t) ∙ c in
      cond-true (eqb x.term e.term) (x ∷ merged rest es) (e ∷ es) t ∙ ap (λ (z : List (Entry B)). x ∷ z) (merged-cut k rest es h' c'))
      (λ f. absurd (true≢false (sym (cond-false (eqb x.term e.term) (conflicts_within rest es k) true f) ∙ h)))
      (cases_Bool (eqb x.term e.term))

  pub repair-added : (log : List (Entry B)) (prev : ℕ) (es : List (Entry B)) → prev ≤ length log → conflicts_within (drop prev log) es (length es) ≡ false → repair log prev es ≡ log ++ drop (length log - prev) es
  repair-added log prev es le h =
      let tail : merged (drop prev log) es ≡ drop prev log ++ drop (length log - prev) es = merged-added (drop prev log) es h ∙ ap (λ (k : ℕ). drop prev log ++ drop k es) (length-drop prev log) in
      ap (λ (z : List (Entry B)). take prev log ++ z) tail
      ∙ (sym (append_assoc (take prev log) (drop prev log) (drop (length log - prev) es)) ∙ ap (λ (z : List (Entry B)). z ++ drop (length log - prev) es) (take-append-drop prev log))

  pub repair-cut : (log : List (Entry B)) (prev k : ℕ) (es : List (Entry B)) → prev ≤ length log → conflicts_within (drop prev log) es k ≡ false → conflicts_within (drop prev log) es (suc k) ≡ true
      → repair log prev es ≡ take (prev + k) log ++ drop k es
  repair-cut log prev k es le h c =
      ap (λ (z : List (Entry B)). take prev log ++ z) (merged-cut k (drop prev log) es h c)
      ∙ (sym (append_assoc (take prev log) (take k (drop prev log)) (drop k es)) ∙ ap (λ (z : List (Entry B)). z ++ drop k es) (sym (take-add prev k log)))

  merged-kept : (c : ℕ) (rest es : List (Entry B)) → c ≤ length rest → conflicts_within rest es c ≡ false → take c (merged rest es) ≡ take c rest
  merged-kept zero rest es le h = refl
  merged-kept (suc c) [] es le h = absurd (omega arith)
  merged-kept (suc c) (x ∷ rest) [] le h = refl
  merged-kept (suc c) (x ∷ rest) (e ∷ es) le h =
      ⊎_elim
      (λ t.
      let h' : conflicts_within rest es c ≡ false = sym (cond-true (eqb x.term e.term) (conflicts_within rest es c) true t) ∙ h in
      ap (take (suc c)) (cond-true (eqb x.term e.term) (x ∷ merged rest es) (e ∷ es) t) ∙ ap (λ (z : List (Entry B)). x ∷ z) (merged-kept c rest es (omega arith) h'))
      (λ f. absurd (true≢false (sym (cond-false (eqb x.term e.term) (conflicts_within rest es c) true f) ∙ h)))
      (cases_Bool (eqb x.term e.term))

  -- the log up to an index is unchanged if no entry conflicts up to it
  pub repair-kept : (log : List (Entry B)) (prev k : ℕ) (es : List (Entry B)) → prev ≤ length log → k ≤ length log → conflicts_within (drop prev log) es (k - prev) ≡ false → take k (repair log prev es) ≡ take k log
  repair-kept log prev k es le within h =
      let front : length (take prev log) ≡ prev = omega (arith, length-take prev log) in
      ⊎_elim
      (λ lt.
      let j : ℕ = k - prev in
      let whole : take (prev + j) (repair log prev es) ≡ take (prev + j) log =
      take-add prev j (repair log prev es)
      ∙ (rw (take_at (take prev log) (merged (drop prev log) es) prev front, drop_at (take prev log) (merged (drop prev log) es) prev front, merged-kept j (drop prev log) es (omega (arith, length-drop prev log)) h) (sym (take-add prev j log)))
      in
      let same : prev + j ≡ k = omega arith in
      subst (λ (n : ℕ). take n (repair log prev es) ≡ take n log) same whole)
      (λ ge.
      let short : k ≤ length (take prev log) = omega (arith, front) in
      take-append-le k (take prev log) (merged (drop prev log) es) short
      ∙ (sym (take-append-le k (take prev log) (drop prev log) short) ∙ ap (take k) (take-append-drop prev log)))
      (cases_lt prev k)
