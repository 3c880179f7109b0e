-- What holds of entries up to a place, or after one.
use Rattle.std.proofs.Common.{◌≡◌, ℕ, ◌≤◌, ◌<◌, ◌+◌, suc, add-one, Some, List, [], ◌∷◌, length, take, drop, get_or, sym, subst, drop-cons}
use Rattle.std.proofs.Math.Seq.{take-suc}
use Rattle.std.proofs.lemmas.List.{drop_all, take_all}
use Rattle.std.proofs.lemmas.List.Elements.{All-nil, All-cons, All-append}
use Rattle.std.proofs.lemmas.Option.{get_or_from_slice_get, slice_get_within}
use Rattle.std.specs.List.{All}
use Rattle.raft_log.specs.Lists.{item}

module _ {X : Type 0} (P : X → Type 0) (xs : List X) where
  there : (i k : ℕ) (x : X) → k ≡ suc i → item xs k ≡ Some x → get_or xs i x ≡ x
  there i k x at is = get_or_from_slice_get xs i x x (subst (λ (n : ℕ). item xs n ≡ Some x) at is)

  inside : (i k : ℕ) (x : X) → k ≡ suc i → item xs k ≡ Some x → i < length xs
  inside i k x at is = slice_get_within xs i x (subst (λ (n : ℕ). item xs n ≡ Some x) at is)

  -- one more from the front
  pub one_more_before : (i k : ℕ) (x : X) → k ≡ suc i → item xs k ≡ Some x → P x → All P (take i xs) → All P (take (i + 1) xs)
  one_more_before i k x at is one all =
      subst (λ (n : ℕ). All P (take n xs)) (sym (add-one i)) (subst (λ (ys : List X). All P ys) (sym (take-suc xs i x (inside i k x at is)))
      (All-append P (take i xs) (get_or xs i x ∷ []) all (All-cons P (get_or xs i x) [] (subst P (sym (there i k x at is)) one) (All-nil P))))

  -- one more from the end
  pub one_more_behind : (i k : ℕ) (x : X) → k ≡ suc i → item xs k ≡ Some x → P x → All P (drop k xs) → All P (drop i xs)
  one_more_behind i k x at is one all =
      subst (λ (ys : List X). All P ys) (sym (drop-cons xs i x (inside i k x at is)))
      (All-cons P (get_or xs i x) (drop (suc i) xs) (subst P (sym (there i k x at is)) one) (subst (λ (n : ℕ). All P (drop n xs)) at all))

  -- none is after the end
  pub none_behind : (k : ℕ) → length xs ≤ k → All P (drop k xs)
  none_behind k h = subst (λ (ys : List X). All P ys) (sym (drop_all k xs h)) (All-nil P)

  -- as many as there are are all
  pub all_before : (i : ℕ) → length xs ≤ i → All P (take i xs) → All P xs
  all_before i h all = subst (λ (ys : List X). All P ys) (take_all i xs h) all
