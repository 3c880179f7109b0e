-- The bytes before the first mark.
use Rattle.std.proofs.Common.{◌≡◌, ℕ, zero, suc, ◌<◌, ◌≤◌, Bool, true, false, not, List, [], ◌∷◌, take, length, get_or, refl, ap, ◌∙◌, arith}
use Rattle.std.specs.Prelude.{◌==◌, if◌then◌else◌}
use Rattle.std.specs.List.{take_while, list_all}
use Rattle.std.proofs.lemmas.Bool.Decides.{nat_tests}
use Rattle.std.proofs.lemmas.List.Sums.{take_while-cons}
use Rattle.irc_line.proofs.Booleans.{and_left, and_right}

abbrev pub no_mark : ℕ → ℕ → Bool
no_mark mark b = not (b == mark)

-- the mark itself
pub own_mark : (mark : ℕ) → no_mark mark mark ≡ false
own_mark mark = grind (arith, nat_tests)

while_cons : (mark x : ℕ) (xs ys : List ℕ) → (no_mark mark) x ≡ true → take_while (no_mark mark) xs ≡ ys → take_while (no_mark mark) (x ∷ xs) ≡ x ∷ ys
while_cons mark x xs ys e h = take_while-cons (no_mark mark) x xs ∙ (ap (λ b. if b then x ∷ take_while (no_mark mark) xs else []) e ∙ ap (λ l. x ∷ l) h)

-- the front before the first mark
pub mark_at : (mark : ℕ) (xs : List ℕ) (i d : ℕ) → list_all (no_mark mark) (take i xs) ≡ true → i < length xs → (no_mark mark) (get_or xs i d) ≡ false → take_while (no_mark mark) xs ≡ take i xs
mark_at mark [] i d e h m = absurd (omega arith)
mark_at mark (x ∷ xs) zero d e h m = take_while-cons (no_mark mark) x xs ∙ ap (λ b. if b then x ∷ take_while (no_mark mark) xs else []) m
mark_at mark (x ∷ xs) (suc i) d e h m = while_cons mark x xs (take i xs) (and_left _ _ e) (mark_at mark xs i d (and_right ((no_mark mark) x) _ e) (omega arith) m)

-- all of it, if there is no mark in a front that is all of it
pub no_mark_past : (mark : ℕ) (xs : List ℕ) (i : ℕ) → list_all (no_mark mark) (take i xs) ≡ true → length xs ≤ i → take_while (no_mark mark) xs ≡ xs
no_mark_past mark [] i e h = refl
no_mark_past mark (x ∷ xs) zero e h = absurd (omega arith)
no_mark_past mark (x ∷ xs) (suc i) e h = while_cons mark x xs xs (and_left _ _ e) (no_mark_past mark xs i (and_right ((no_mark mark) x) _ e) (omega arith))
