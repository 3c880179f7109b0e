-- What comes before the first mark.
use Rattle.std.proofs.Common.{◌≡◌, ℕ, zero, suc, ◌<◌, ◌≤◌, Bool, true, false, not, List, [], ◌∷◌, take, length, get_or, refl, ap, ◌∙◌, arith}
use Rattle.std.specs.Prelude.{◌==◌, if◌then◌else◌}
use Rattle.std.specs.List.{take_while, list_all}
use Rattle.std.proofs.lemmas.List.Sums.{take_while-cons}
use Rattle.irc_line.proofs.Booleans.{and_left, and_right}

abbrev pub no_mark : ℕ → Bool
no_mark b = not (b == 33)

while_cons : (x : ℕ) (xs ys : List ℕ) → no_mark x ≡ true → take_while no_mark xs ≡ ys → take_while no_mark (x ∷ xs) ≡ x ∷ ys
while_cons x xs ys e h = take_while-cons no_mark x xs ∙ (ap (λ b. if b then x ∷ take_while no_mark xs else []) e ∙ ap (λ l. x ∷ l) h)

-- the front before the first mark
pub mark_at : (xs : List ℕ) (i d : ℕ) → list_all no_mark (take i xs) ≡ true → i < length xs → no_mark (get_or xs i d) ≡ false → take_while no_mark xs ≡ take i xs
mark_at [] i d e h m = absurd (omega arith)
mark_at (x ∷ xs) zero d e h m = take_while-cons no_mark x xs ∙ ap (λ b. if b then x ∷ take_while no_mark xs else []) m
mark_at (x ∷ xs) (suc i) d e h m = while_cons x xs (take i xs) (and_left _ _ e) (mark_at xs i d (and_right (no_mark x) _ e) (omega arith) m)

-- the whole list, if there is no mark in it
pub no_mark_past : (xs : List ℕ) (i : ℕ) → list_all no_mark (take i xs) ≡ true → length xs ≤ i → take_while no_mark xs ≡ xs
no_mark_past [] i e h = refl
no_mark_past (x ∷ xs) zero e h = absurd (omega arith)
no_mark_past (x ∷ xs) (suc i) e h = while_cons x xs xs (and_left _ _ e) (no_mark_past xs i (and_right (no_mark x) _ e) (omega arith))
