-- Which of several lists is the longest.
use Rattle.std.proofs.Common.{◌≡◌, ◌⊎◌, ℕ, ◌≤◌, List, ◌∷◌, length, inl, inr, subst, arith}
use Rattle.bouncer_run.specs.Days.{IsLongest, IsOneOf}

le_on : (a b c : ℕ) → a ≤ b → b ≤ c → a ≤ c
le_on a b c h k = omega (arith, h, k)

self_le : (n : ℕ) → n ≤ n
self_le n = omega arith

module _ {A : Type 0} where
  -- each list is as long as itself
  pub as_itself : (list : List A) → length list ≤ length list
  as_itself list = self_le (length list)

  -- the longest of some and of the longer one of two is the longest of all
  pub longest_of_two : (chosen longer first next : List A) (others : List (List A)) → length first ≤ length longer → length next ≤ length longer
      → IsLongest chosen (longer ∷ others) → IsLongest chosen (first ∷ next ∷ others)
  longest_of_two chosen longer first next others h k most =
      (le_on (length first) (length longer) (length chosen) h most.0, (le_on (length next) (length longer) (length chosen) k most.0, most.1))

  -- and is one of them
  pub one_of_two : (chosen longer first next : List A) (others : List (List A)) → (longer ≡ first) ⊎ (longer ≡ next)
      → IsOneOf chosen (longer ∷ others) → IsOneOf chosen (first ∷ next ∷ others)
  one_of_two chosen longer first next others (inl h) (inl is) = inl (subst (λ (l : List A). chosen ≡ l) h is)
  one_of_two chosen longer first next others (inr h) (inl is) = inr (inl (subst (λ (l : List A). chosen ≡ l) h is))
  one_of_two chosen longer first next others which (inr other) = inr (inr other)
