-- Folded names, compared byte by byte.
use Rattle.std.proofs.Common.{◌≡◌, ◌≢◌, ℕ, false, ◌&&◌, List, [], ◌∷◌, length, drop, get_or, suc, refl, ap, ◌<◌, ◌+◌, add-one}
use Rattle.std.specs.Prelude.{◌==◌}
use Rattle.std.proofs.Math.Seq.{drop-cons}
use Rattle.irc_line.specs.Names.{fold_byte, same_name}
use Rattle.irc_line.proofs.Booleans.{and_false}

-- names of different length differ
pub lengths : (a b : List ℕ) → length a ≢ length b → same_name a b ≡ false
unfolding same_name
lengths [] [] h = absurd (h refl)
lengths [] (y ∷ b) h = refl
lengths (x ∷ a) [] h = refl
lengths (x ∷ a) (y ∷ b) h =
    let rest : same_name a b ≡ false = lengths a b (λ e. h (ap suc e)) in
    rw rest (and_false (fold_byte x == fold_byte y))

-- comparing one byte further
pub further : (a b : List ℕ) (i : ℕ) → i < length a → i < length b
    → same_name (drop i a) (drop i b) ≡ (fold_byte (get_or a i 0) == fold_byte (get_or b i 0) && same_name (drop (i + 1) a) (drop (i + 1) b))
unfolding same_name
further a b i h k = rw (add-one, drop-cons a i 0, drop-cons b i 0) refl
