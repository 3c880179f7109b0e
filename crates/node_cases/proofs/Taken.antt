-- The first items of a list.
use Rattle.std.proofs.Common.{◌≡◌, ◌≤◌, ◌++◌, ℕ, List, drop, length, take, min, sym, ap, ◌∙◌}
use Rattle.std.proofs.lemmas.List.{append-nil, drop_all, take_min}

module _ {A : Type 0} where
  -- those that are done are the first so many of the first so many, where no more than there are were taken
  pub all_done : (few most : ℕ) (xs done : List A) (m n i : ℕ) → done ++ drop i (take n (take m xs)) ≡ take n (take m xs) → length (take n (take m xs)) ≤ i
      → m ≡ min most (length xs) → n ≡ min few (length (take m xs)) → done ≡ take few (take most xs)
  all_done few most xs done m n i split end p q =
      sym (append-nil done) ∙ ap (λ l. done ++ l) (sym (drop_all i (take n (take m xs)) end)) ∙ split
      ∙ ap (λ k. take k (take m xs)) q ∙ take_min few (take m xs)
      ∙ ap (λ k. take few (take k xs)) p ∙ ap (λ l. take few l) (take_min most xs)
