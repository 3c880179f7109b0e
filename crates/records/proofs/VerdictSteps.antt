-- What a verdict says.
use Rattle.std.proofs.Common.{◌≡◌, ℕ, suc, ◌+◌, ◌-◌, Bool, true, false, List, [], ◌∷◌, take, Option, Some, refl, sym, subst, ◌∙◌, arith}
use Rattle.std.specs.Prelude.{◌==◌, if◌then◌else◌, slice_get}
use Rattle.std.proofs.lemmas.Bool.Decides.{nat_tests}
use Rattle.irc_line.specs.Names.{same_bytes}
use Rattle.irc_line.proofs.SameBytes.{same_bytes-eq, same_bytes-refl}
use Rattle.records.specs.declared.verdict.Verdict.{Verdict}
use Rattle.records.specs.declared.verdict.Verdict.TheVariants.{Same, Differs}
use Rattle.records.specs.Verdicts.{first_other, lines_of, verdict}
use Rattle.records.specs.VerdictLaws.{IsFirstOther}
use Rattle.records.proofs.Comparing.{by_bytes, next_line, verdict_is}

same_byte : (a : ℕ) → (a == a) ≡ true
same_byte a = grind (arith, nat_tests)

equal_by : (n a b : ℕ) (rest bs : List ℕ) (t : Bool) → (a == b) ≡ t → (if t then by_bytes (next_line n a) rest bs else Differs n) ≡ Same → (by_bytes (next_line n a) rest bs ≡ Same → rest ≡ bs) → a ∷ rest ≡ b ∷ bs
equal_by n a b rest bs true e h more = let same : a ≡ b = grind (arith, nat_tests) in rw (same, more h) refl
equal_by n a b rest bs false e h more = absurd cc

equal : (n : ℕ) (a b : List ℕ) → by_bytes n a b ≡ Same → a ≡ b
equal n [] [] h = refl
equal n [] (b ∷ bs) h = absurd cc
equal n (a ∷ rest) [] h = absurd cc
equal n (a ∷ rest) (b ∷ bs) h = equal_by n a b rest bs (a == b) refl h (equal (next_line n a) rest bs)

all_same : (n : ℕ) (a : List ℕ) → by_bytes n a a ≡ Same
all_same n [] = refl
all_same n (a ∷ rest) = let s = same_byte a in let ih = all_same (next_line n a) rest in rw s ih

pub same_is_equal : (a b : List ℕ) → (verdict a b ≡ Same → a ≡ b) × (a ≡ b → verdict a b ≡ Same)
same_is_equal a b = (λ h. equal 1 a b (sym (verdict_is a b) ∙ h), λ e. subst (λ (x : List ℕ). verdict a x ≡ Same) e (verdict_is a a ∙ all_same 1 a))

-- the first line that differs is this many after the first
record IsBehind (number k : ℕ) (xs ys : List (List ℕ)) : Type 0 where
  pub places : ℕ
  pub is : k ≡ number + places
  pub before : take places xs ≡ take places ys
  pub here : slice_get xs places ≡ slice_get ys places → ⊥

line_is : (a b : ℕ) → ◌≡◌ {A = Verdict} (Differs a) (Differs b) → a ≡ b
line_is a b e = cc

some_is : (x y : List ℕ) → ◌≡◌ {A = Option (List ℕ)} (Some x) (Some y) → x ≡ y
some_is x y e = cc

differs_by : (number k : ℕ) (x y : List ℕ) (xs ys : List (List ℕ)) (t : Bool) → same_bytes x y ≡ t → (if t then first_other (suc number) xs ys else Differs number) ≡ Differs k
    → (first_other (suc number) xs ys ≡ Differs k → IsBehind (suc number) k xs ys) → IsBehind number k (x ∷ xs) (y ∷ ys)
differs_by number k x y xs ys true e h more =
    let ih = more h in
    let one : x ≡ y = same_bytes-eq x y e in
    record { places = suc ih.places; is = omega (arith, ih.is); before = rw (one, ih.before) refl; here = ih.here }
differs_by number k x y xs ys false e h more =
    record {
      places = 0;
      is = omega (arith, line_is number k h);
      before = refl;
      here = λ s. let again : same_bytes x x ≡ false = subst (λ (z : List ℕ). same_bytes x z ≡ false) (sym (some_is x y s)) e in let yes = same_bytes-refl x in absurd cc;
    }

differs : (number k : ℕ) (xs ys : List (List ℕ)) → first_other number xs ys ≡ Differs k → IsBehind number k xs ys
differs number k [] [] h = absurd cc
differs number k [] (y ∷ ys) h = record { places = 0; is = omega (arith, line_is number k h); before = refl; here = λ s. absurd cc }
differs number k (x ∷ xs) [] h = record { places = 0; is = omega (arith, line_is number k h); before = refl; here = λ s. absurd cc }
differs number k (x ∷ xs) (y ∷ ys) h = differs_by number k x y xs ys (same_bytes x y) refl h (differs (suc number) k xs ys)

-- the line that is reported is the first that differs
pub differs_is_first : (a b : List ℕ) (line : ℕ) → verdict a b ≡ Differs line → IsFirstOther line (lines_of a) (lines_of b)
unfolding verdict
differs_is_first a b line h =
    let d = differs 1 line (lines_of a) (lines_of b) h in
    let at : line - 1 ≡ d.places = omega (arith, d.is) in
    record { from_1 = omega (arith, d.is); before = rw at d.before; here = rw at d.here }
