-- What holds of each of the first items of a list.
use Rattle.std.proofs.Common.{ℕ, ◌≤◌, ◌<◌, ◌+◌, add-one, List, [], ◌∷◌, length, take, get_or, sym, subst}
use Rattle.std.proofs.Math.Seq.{take-suc}
use Rattle.std.proofs.lemmas.List.{take_all}
use Rattle.std.proofs.lemmas.List.Elements.{All-nil, All-cons, All-append}
use Rattle.std.specs.List.{All}

-- what holds of those so far and of one more holds of all these
pub one_more : {X : Type 0} (P : X → Type 0) (xs : List X) (i : ℕ) (x : X) → i < length xs → All P (take i xs) → P (get_or xs i x) → All P (take (i + 1) xs)
one_more P xs i x h all one =
    subst (λ (n : ℕ). All P (take n xs)) (sym (add-one i)) (subst (λ (ys : List _). All P ys) (sym (take-suc xs i x h))
    (All-append P (take i xs) (get_or xs i x ∷ []) all (All-cons P (get_or xs i x) [] one (All-nil P))))

-- what holds of as many as there are holds of all
pub all_of_them : {X : Type 0} (P : X → Type 0) (xs : List X) (i : ℕ) → length xs ≤ i → All P (take i xs) → All P xs
all_of_them P xs i h all = subst (λ (ys : List _). All P ys) (take_all i xs h) all
