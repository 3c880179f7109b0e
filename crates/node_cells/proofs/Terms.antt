-- A log after a step differs from the log before it in its terms.
use Rattle.std.proofs.Common.{◌≡◌, ◌≢◌, ℕ, zero, suc, ◌+◌, ◌-◌, ◌<◌, Bool, true, false, cond, eqb, eq-eqb, List, [], ◌∷◌, ◌++◌, length, take, drop, get_or, drop-cons, refl, sym, ap, ◌∙◌, arith}
use Rattle.std.proofs.lemmas.Bool.{cond-true, cond-false, ne_eqb}
use Rattle.std.proofs.lemmas.List.{map_more}
use Rattle.raft_log.specs.declared.entry.Entry.{Entry}
use Rattle.raft_log.specs.Logs.{merged, repair, term_at}
use Rattle.raft_log.proofs.Repairs.{term_at_index}
use Rattle.node_cells.specs.Remembering.{same_terms}
use Rattle.node_cells.specs.Sending.{terms_of}

-- logs of the same terms are the same
abbrev pub Tells : {B : Type 0} → List (Entry B) → List (Entry B) → Type 0
Tells old new = terms_of new ≡ terms_of old → new ≡ old

rest_is : (a b : ℕ) (xs ys : List ℕ) → a ∷ xs ≡ b ∷ ys → xs ≡ ys
rest_is a b xs ys h = cc h

first_is : (a b : ℕ) (xs ys : List ℕ) → a ∷ xs ≡ b ∷ ys → a ≡ b
first_is a b xs ys h = cc h

module _ {B : Type 0} where
  -- one that is longer has other terms
  pub longer_tells : (log : List (Entry B)) (e : Entry B) (es : List (Entry B)) → Tells log (log ++ e ∷ es)
  longer_tells [] e es h = absurd (cc h)
  longer_tells (x ∷ log) e es h = ap (λ (l : List (Entry B)). x ∷ l) (longer_tells log e es (rest_is x.term x.term _ _ h))

  by_test : (x : Entry B) (rest : List (Entry B)) (e : Entry B) (es more : List (Entry B)) → Tells rest more → (b : Bool) → eqb x.term e.term ≡ b
      → terms_of (cond b (x ∷ more) (e ∷ es)) ≡ terms_of (x ∷ rest) → cond b (x ∷ more) (e ∷ es) ≡ x ∷ rest
  by_test x rest e es more tells true t h = ap (λ (l : List (Entry B)). x ∷ l) (tells (rest_is x.term x.term _ _ h))
  by_test x rest e es more tells false t h =
      let same : x.term ≡ e.term = sym (first_is e.term x.term _ _ h) in
      absurd (let z : true ≡ false = sym (eq-eqb x.term e.term same) ∙ t in cc z)

  merged_tells : (rest es : List (Entry B)) → Tells rest (merged rest es)
  merged_tells rest [] h = refl
  merged_tells [] (e ∷ es) h = absurd (cc h)
  merged_tells (x ∷ rest) (e ∷ es) h = by_test x rest e es (merged rest es) (merged_tells rest es) (eqb x.term e.term) refl h

  pub repair_tells : (log : List (Entry B)) (prev : ℕ) (es : List (Entry B)) → Tells log (repair log prev es)
  repair_tells log zero es h = merged_tells log es h
  repair_tells [] (suc prev) es h = merged_tells [] es h
  repair_tells (x ∷ log) (suc prev) es h = ap (λ (l : List (Entry B)). x ∷ l) (repair_tells log prev es (rest_is x.term x.term _ _ h))

  term_there : (log : List (Entry B)) (i k : ℕ) (d : Entry B) → i < length log → k ≡ suc i → (get_or log i d).term ≡ term_at log k
  term_there log i k d lt is =
      let before : k - 1 ≡ i = omega (arith, is) in
      sym (ap (λ (n : ℕ). (get_or log n d).term) before) ∙ term_at_index log k d (omega (arith, is)) (omega (arith, is))

  -- one more term of a log
  pub terms_more : (log : List (Entry B)) (i k : ℕ) → i < length log → k ≡ suc i → terms_of (take i log) ++ term_at log k ∷ [] ≡ terms_of (take (i + 1) log)
  terms_more [] i k lt is = absurd (omega arith)
  terms_more (x ∷ log) i k lt is =
      sym (map_more (λ (e : Entry B). e.term) (x ∷ log) i x lt ∙ ap (λ (t : ℕ). terms_of (take i (x ∷ log)) ++ t ∷ []) (term_there (x ∷ log) i k x lt is))

  compared : (ts : List ℕ) (log : List (Entry B)) (i k d : ℕ) → i < length ts → i < length log → k ≡ suc i
      → same_terms (drop i ts) (drop i log) ≡ cond (eqb (get_or ts i d) (term_at log k)) (same_terms (drop (suc i) ts) (drop (suc i) log)) false
  compared ts [] i k d lt lt' is = absurd (omega arith)
  compared ts (x ∷ log) i k d lt lt' is =
      let rest : Bool = same_terms (drop (suc i) ts) (drop (suc i) (x ∷ log)) in
      ap (λ (z : List ℕ). same_terms z (drop i (x ∷ log))) (drop-cons ts i d lt)
      ∙ (ap (λ (z : List (Entry B)). same_terms (get_or ts i d ∷ drop (suc i) ts) z) (drop-cons (x ∷ log) i x lt')
      ∙ ap (λ (t : ℕ). cond (eqb (get_or ts i d) t) rest false) (term_there (x ∷ log) i k x lt' is))

  -- one more term is compared
  pub same_more : (ts : List ℕ) (log : List (Entry B)) (i k j d : ℕ) → i < length ts → i < length log → k ≡ suc i → j ≡ suc i → term_at log k ≡ get_or ts i d
      → same_terms (drop j ts) (drop j log) ≡ same_terms (drop i ts) (drop i log)
  same_more ts log i k j d lt lt' is next same =
      ap (λ (n : ℕ). same_terms (drop n ts) (drop n log)) next
      ∙ sym (compared ts log i k d lt lt' is ∙ cond-true (eqb (get_or ts i d) (term_at log k)) (same_terms (drop (suc i) ts) (drop (suc i) log)) false (eq-eqb (get_or ts i d) (term_at log k) (sym same)))

  pub same_other : (ts : List ℕ) (log : List (Entry B)) (i k d : ℕ) → i < length ts → i < length log → k ≡ suc i → term_at log k ≢ get_or ts i d → same_terms (drop i ts) (drop i log) ≡ false
  same_other ts log i k d lt lt' is other =
      compared ts log i k d lt lt' is
      ∙ cond-false (eqb (get_or ts i d) (term_at log k)) (same_terms (drop (suc i) ts) (drop (suc i) log)) false (ne_eqb (get_or ts i d) (term_at log k) (λ h. other (sym h)))
