-- Comparing byte by byte finds the first line that differs.
use Rattle.std.proofs.Common.{◌≡◌, ℕ, suc, ◌<◌, Bool, true, false, List, [], ◌∷◌, length, refl, sym, ap, ◌∙◌, arith}
use Rattle.std.specs.Prelude.{◌==◌, if◌then◌else◌}
use Rattle.std.proofs.lemmas.Bool.Decides.{nat_tests}
use Rattle.records.specs.declared.verdict.Verdict.{Verdict}
use Rattle.records.specs.declared.verdict.Verdict.TheVariants.{Same, Differs}
use Rattle.records.specs.Verdicts.{put_byte, lines_of, first_other, verdict}

-- the number of the line after a byte
abbrev pub next_line : ℕ → ℕ → ℕ
next_line number b = if b == 10 then suc number else number

-- the result for the texts, byte by byte
abbrev pub by_bytes : ℕ → List ℕ → List ℕ → Verdict
by_bytes number [] [] = Same
by_bytes number [] (b ∷ bs) = Differs number
by_bytes number (a ∷ rest) [] = Differs number
by_bytes number (a ∷ rest) (b ∷ bs) = if a == b then by_bytes (next_line number a) rest bs else Differs number

begins_by : (b : ℕ) (t : Bool) (lines : List (List ℕ)) → (b == 10) ≡ t → (l : List ℕ) × (ls : List (List ℕ)) × ((if t then (10 ∷ []) ∷ lines else put_byte b lines) ≡ (b ∷ l) ∷ ls)
begins_by b true lines e = let same : b ≡ 10 = grind (arith, nat_tests) in ([], lines, rw same refl)
begins_by b false [] e = ([], [], refl)
begins_by b false (line ∷ lines) e = (line, lines, refl)

-- the first line begins as the text does
begins : (b : ℕ) (bs : List ℕ) → (l : List ℕ) × (ls : List (List ℕ)) × (lines_of (b ∷ bs) ≡ (b ∷ l) ∷ ls)
begins b bs = begins_by b (b == 10) (lines_of bs) refl

same_byte : (a : ℕ) → (a == a) ≡ true
same_byte a = grind (arith, nat_tests)

-- a byte before both first lines changes nothing
put_both : (n a : ℕ) (rest bs : List ℕ) → first_other n (lines_of rest) (lines_of bs) ≡ first_other n (put_byte a (lines_of rest)) (put_byte a (lines_of bs))
put_both n a [] [] = let s = same_byte a in rw s refl
put_both n a [] (b ∷ bs) = let s = same_byte a in let h = begins b bs in rw (h.2, s) refl
put_both n a (c ∷ rest) [] = let s = same_byte a in let g = begins c rest in rw (g.2, s) refl
put_both n a (c ∷ rest) (b ∷ bs) = let s = same_byte a in let g = begins c rest in let h = begins b bs in rw (g.2, h.2, s) refl

both_by : (n a : ℕ) (rest bs : List ℕ) (t : Bool) → (a == 10) ≡ t
    → first_other (if t then suc n else n) (lines_of rest) (lines_of bs) ≡ first_other n (if t then (10 ∷ []) ∷ lines_of rest else put_byte a (lines_of rest)) (if t then (10 ∷ []) ∷ lines_of bs else put_byte a (lines_of bs))
both_by n a rest bs true e = refl
both_by n a rest bs false e = put_both n a rest bs

compare_by : (n a b : ℕ) (rest bs : List ℕ) (t : Bool) → (a == b) ≡ t → by_bytes (next_line n a) rest bs ≡ first_other (next_line n a) (lines_of rest) (lines_of bs)
    → (if t then by_bytes (next_line n a) rest bs else Differs n) ≡ first_other n (lines_of (a ∷ rest)) (lines_of (b ∷ bs))
compare_by n a b rest bs true e ih = let same : a ≡ b = grind (arith, nat_tests) in ih ∙ (both_by n a rest bs (a == 10) refl ∙ ap (λ (x : ℕ). first_other n (lines_of (a ∷ rest)) (lines_of (x ∷ bs))) same)
compare_by n a b rest bs false e ih = let g = begins a rest in let h = begins b bs in rw (g.2, h.2, e) refl

compare : (n : ℕ) (a b : List ℕ) → by_bytes n a b ≡ first_other n (lines_of a) (lines_of b)
compare n [] [] = refl
compare n [] (b ∷ bs) = let h = begins b bs in rw h.2 refl
compare n (a ∷ rest) [] = let g = begins a rest in rw g.2 refl
compare n (a ∷ rest) (b ∷ bs) = compare_by n a b rest bs (a == b) refl (compare (next_line n a) rest bs)

-- the texts' verdict, byte by byte
pub verdict_is : (a b : List ℕ) → verdict a b ≡ by_bytes 1 a b
unfolding verdict
verdict_is a b = sym (compare 1 a b)

-- if both texts end they are the same
pub both_end : (line : ℕ) (left other a b : List ℕ) → length left < 1 → length other ≡ 0 → by_bytes line left other ≡ by_bytes 1 a b → Same ≡ verdict a b
both_end line [] [] a b l o h = h ∙ sym (verdict_is a b)
both_end line [] (y ∷ other) a b l o h = absurd (omega (arith, o))
both_end line (x ∷ left) other a b l o h = absurd (omega (arith, l))

-- if only one ends, they differ there
pub one_ends : (line : ℕ) (left other a b : List ℕ) → length left < 1 → 0 < length other → by_bytes line left other ≡ by_bytes 1 a b → Differs line ≡ verdict a b
one_ends line [] [] a b l o h = absurd (omega (arith, o))
one_ends line [] (y ∷ other) a b l o h = h ∙ sym (verdict_is a b)
one_ends line (x ∷ left) other a b l o h = absurd (omega (arith, l))
