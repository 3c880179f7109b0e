-- The place of the first LF, as a search of bytes finds it.
use Rattle.std.proofs.Common.{◌≡◌, ℕ, ◌<◌, Bool, true, false, List, length, refl, arith}
use Rattle.std.specs.Prelude.{◌==◌, nat_lt, position, Option, Some, None}
use Rattle.std.specs.List.{position_or_len}
use Rattle.std.proofs.lemmas.Bool.Decides.{nat_tests}
use Rattle.std.proofs.lemmas.List.Sums.{position_or_len_is}
use Rattle.memchr.specs.Find.{IsFirstByte, is_byte}

fails : (b : Bool) → ¬ (b ≡ true) → b ≡ false
fails true h = absurd (h refl)
fails false h = refl

not_below : (n : ℕ) → nat_lt n n ≡ false
not_below n = grind (arith, nat_tests)

below : (k n : ℕ) → k < n → nat_lt k n ≡ true
below k n h = grind (arith, nat_tests, h)

-- the place that a search finds is the first place
pub first_end : (xs : List ℕ) (r : Option ℕ) → IsFirstByte (is_byte 10) xs r → r ≡ position (λ b. b == 10) xs
first_end xs None h =
    let all : position_or_len (λ b. b == 10) xs ≡ length xs = position_or_len_is (λ b. b == 10) xs (length xs) 0 (omega arith) (λ k low. fails _ (h k (omega arith) low)) (λ low. absurd (omega (arith, low))) in
    rw (all, not_below (length xs)) refl
first_end xs (Some k) h =
    let here : position_or_len (λ b. b == 10) xs ≡ k = position_or_len_is (λ b. b == 10) xs k 0 (omega (arith, h.0.high)) (λ j low. fails _ (h.0.before j (omega arith) low)) (λ low. h.1) in
    rw (here, below k (length xs) h.0.high) refl
