-- Which of several logs is the most up to date.
use Rattle.std.proofs.Common.{◌≡◌, ◌⊎◌, ℕ, true, List, ◌∷◌, length, inl, inr, subst, arith}
use Rattle.raft_log.specs.Logs.{last_term, up_to_date}
use Rattle.stable_store.specs.declared.saved.Saved.{Saved}
use Rattle.journal_folder.specs.Counting.{IsAsUpToDate, IsMostUpToDate, IsOneOf}

up_to_date_on : (u n v l w m : ℕ) → up_to_date u n v l ≡ true → up_to_date v l w m ≡ true → up_to_date u n w m ≡ true
up_to_date_on u n v l w m h k = grind arith

up_to_date_self : (u n : ℕ) → up_to_date u n u n ≡ true
up_to_date_self u n = grind arith

module _ {B : Type 0} where
  -- each log is as up to date as itself
  pub as_itself : (saved : Saved B) → IsAsUpToDate saved saved
  as_itself saved = up_to_date_self (last_term saved.log) (length saved.log)

  -- and the relation is transitive
  pub as_a_third : (a b c : Saved B) → IsAsUpToDate a b → IsAsUpToDate b c → IsAsUpToDate a c
  as_a_third a b c h k = up_to_date_on (last_term a.log) (length a.log) (last_term b.log) (length b.log) (last_term c.log) (length c.log) h k

  -- the best of some and the better of two is the best of all
  pub most_of_two : (chosen better first next : Saved B) (others : List (Saved B)) → IsAsUpToDate better first → IsAsUpToDate better next
      → IsMostUpToDate chosen (better ∷ others) → IsMostUpToDate chosen (first ∷ next ∷ others)
  most_of_two chosen better first next others h k most =
      (as_a_third chosen better first most.0 h, (as_a_third chosen better next most.0 k, most.1))

  -- and one of them
  pub one_of_two : (chosen better first next : Saved B) (others : List (Saved B)) → (better ≡ first) ⊎ (better ≡ next)
      → IsOneOf chosen (better ∷ others) → IsOneOf chosen (first ∷ next ∷ others)
  one_of_two chosen better first next others (inl h) (inl is) = inl (subst (λ (s : Saved B). chosen ≡ s) h is)
  one_of_two chosen better first next others (inr h) (inl is) = inr (inl (subst (λ (s : Saved B). chosen ≡ s) h is))
  one_of_two chosen better first next others which (inr other) = inr (inr other)
