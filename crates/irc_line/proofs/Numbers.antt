-- Tests of numbers.
use Rattle.std.proofs.Common.{◌≡◌, ℕ, ◌<◌, ◌≤◌, ◌≢◌, true, false, arith}
use Rattle.std.specs.Prelude.{◌==◌, nat_lt, nat_le}
use Rattle.std.proofs.lemmas.Bool.Decides.{nat_tests}

pub eq_of : (x y : ℕ) → (x == y) ≡ true → x ≡ y
eq_of x y e = grind (arith, nat_tests)

pub of_eq : (x y : ℕ) → x ≡ y → (x == y) ≡ true
of_eq x y e = grind (arith, nat_tests)

pub of_ne : (x y : ℕ) → x ≢ y → (x == y) ≡ false
of_ne x y e = grind (arith, nat_tests)

pub lt_of : (x y : ℕ) → nat_lt x y ≡ true → x < y
lt_of x y e = grind (arith, nat_tests)

pub of_lt : (x y : ℕ) → x < y → nat_lt x y ≡ true
of_lt x y e = grind (arith, nat_tests)

pub ge_of : (x y : ℕ) → nat_lt x y ≡ false → y ≤ x
ge_of x y e = grind (arith, nat_tests)

pub of_ge : (x y : ℕ) → y ≤ x → nat_lt x y ≡ false
of_ge x y e = grind (arith, nat_tests)

pub le_of : (x y : ℕ) → nat_le x y ≡ true → x ≤ y
le_of x y e = grind (arith, nat_tests)

pub of_le : (x y : ℕ) → x ≤ y → nat_le x y ≡ true
of_le x y e = grind (arith, nat_tests)

pub gt_of : (x y : ℕ) → nat_le x y ≡ false → y < x
gt_of x y e = grind (arith, nat_tests)

pub of_gt : (x y : ℕ) → y < x → nat_le x y ≡ false
of_gt x y e = grind (arith, nat_tests)
