-- Tests that are true or false.
use Rattle.std.proofs.Common.{◌≡◌, Bool, true, false, not, ◌&&◌, ◌||◌, ◌⊎◌, refl, sym, inl, inr}
pub use Rattle.std.proofs.Math.Bool.{and-false as and_false, and-true as and_true, or-false as or_false, or-true as or_true}
pub use Rattle.std.proofs.lemmas.Bool.{and_from as and_both, or_from as or_both_false, or_left as or_first, or_right as or_second, not_from_false as not_from}

pub and_left : (a b : Bool) → (a && b) ≡ true → a ≡ true
and_left true b e = refl
and_left false b e = cc

pub and_right : (a b : Bool) → (a && b) ≡ true → b ≡ true
and_right true b e = e
and_right false b e = cc

pub or_left_false : (a b : Bool) → (a || b) ≡ false → a ≡ false
or_left_false true b e = cc
or_left_false false b e = refl

pub or_right_false : (a b : Bool) → (a || b) ≡ false → b ≡ false
or_right_false true b e = cc
or_right_false false b e = e

pub false_of : (b : Bool) → (b ≡ true → false ≡ true) → b ≡ false
false_of true f = sym (f refl)
false_of false f = refl

pub not_true : (b : Bool) → not b ≡ true → b ≡ false
not_true true e = cc
not_true false e = refl

pub or_cases : (a b : Bool) → (a || b) ≡ true → (a ≡ true) ⊎ (b ≡ true)
or_cases true b e = inl refl
or_cases false b e = inr e
