-- The second of the day of a civil time.
use Rattle.std.proofs.Common.{◌≡◌, ℕ, ◌+◌, ◌*◌, ◌%◌, ◌<◌, ℤ, pos, ◌+ℤ◌, ◌-ℤ◌, ◌*ℤ◌, arith}
use Rattle.std.proofs.lemmas.Int.{ints}

-- a civil time on a day, where a moment and an offset give it
pub second_is : (at offset t sub : ℕ) (day : ℤ) → t < 86400 → sub < 1000000000 → offset < 2879
    → day *ℤ pos 86400000000000 +ℤ pos (t * 1000000000 + sub) ≡ pos at *ℤ pos 1000000000 +ℤ ((pos offset -ℤ pos 1439) *ℤ pos 60) *ℤ pos 1000000000
    → t ≡ (at + 60 * (offset + 1)) % 86400
second_is at offset t sub day a b o e = omega (arith, ints)
