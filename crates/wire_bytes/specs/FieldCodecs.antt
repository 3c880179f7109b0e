-- Each field is a codec. These are lemmas; nothing here has to be trusted.
use Rattle.std.proofs.Common.{◌≡◌, ℕ, zero, suc, ◌^◌, ◌<◌, ◌≤◌, inl, inr, Bool, true, false, cond, ltb, leb, List, [], ◌∷◌, ◌++◌, length, take, Option, Some, Result, Ok, Err, refl, sym, ap, subst, ◌∙◌, arith}
use Rattle.std.specs.Prelude.{◌&&◌}
use Rattle.std.specs.Int.{Width, w16, w32, w64, byte_len, from_be_bytes, to_be_bytes}
use Rattle.std.proofs.lemmas.Bool.{cases_lt, ltb-false, le-ltb, leb-true, le-leb}
use Rattle.std.proofs.lemmas.List.{take_at, length-append, length-take, get_or-take, get_or_past}
use Rattle.std.proofs.lemmas.Nat.{be_bytes_2, be_bytes_4, be_bytes_8, from_be_bytes-to_be_bytes_2, from_be_bytes-to_be_bytes_4, from_be_bytes-to_be_bytes_8}
use Rattle.wire_bytes.specs.declared.wire_fault.WireFault.{WireFault}
use Rattle.wire_bytes.specs.declared.wire_fault.WireFault.TheVariants.{Short, Bad, Memory}
use Rattle.wire_bytes.specs.Fields.{AreBytes, byte_judged, byte_within, truth, truth_byte, number_to}
use Rattle.wire_bytes.specs.Codecs.{IsCodec}

AreBytes-take : (n : ℕ) (bytes : List ℕ) → AreBytes bytes → AreBytes (take n bytes)
AreBytes-take n bytes h i =
    elim (cases_lt i n) [
      | inl lt ↦ rw (get_or-take n bytes i 0 lt) (h i)
      | inr le ↦ rw (get_or_past (take n bytes) i 0 (omega (arith, length-take n bytes))) (omega arith)
    ]

-- a result that is this value
abbrev pub answer : {A : Type 0} → A → Result A WireFault
answer x = Ok x

-- a result that is this fault
abbrev refused : {A : Type 0} → WireFault → Result A WireFault
refused e = Err e

-- an option that is this value
abbrev pub chosen_one : {A : Type 0} → A → Option A
chosen_one x = Some x

pub answer_is : {A : Type 0} (x y : A) → answer x ≡ answer y → x ≡ y
answer_is x y e = cc

pub answer_or : {A : Type 0} (x : A) (d : WireFault) → answer x ≡ refused d → ⊥
answer_or x d e = cc

pub place_is : {A : Type 0} (a b : ℕ) → refused {A = A} (Bad a) ≡ refused (Bad b) → a ≡ b
place_is a b e = cc

-- a test that refuses, and what was returned
pub unless_ok : {A : Type 0} (b : Bool) (d : WireFault) (r : Result A WireFault) (y : A) → cond b (Err d) r ≡ Ok y → (b ≡ false) × (r ≡ Ok y)
unless_ok true d r y e = absurd cc
unless_ok false d r y e = (refl, e)

where_ok : {A : Type 0} (b : Bool) (d : WireFault) (r : Result A WireFault) (y : A) → cond b r (Err d) ≡ Ok y → (b ≡ true) × (r ≡ Ok y)
where_ok true d r y e = (refl, e)
where_ok false d r y e = absurd cc

pub unless_bad : {A : Type 0} (b : Bool) (r : Result A WireFault) (p : ℕ) → cond b (Err Short) r ≡ Err (Bad p) → (b ≡ false) × (r ≡ Err (Bad p))
unless_bad true r p e = absurd cc
unless_bad false r p e = (refl, e)

where_bad : {A : Type 0} (b : Bool) (x : A) (q p : ℕ) → cond b (Ok x) (Err (Bad q)) ≡ Err (Bad p) → q ≡ p
where_bad {A} true x q p e = absurd cc
where_bad {A} false x q p e = place_is {A = A} q p e

pub unless_memory : {A : Type 0} (b : Bool) (r : Result A WireFault) → cond b (Err Short) r ≡ Err Memory → r ≡ Err Memory
unless_memory true r e = absurd cc
unless_memory false r e = e

where_memory : {A : Type 0} (b : Bool) (x : A) → cond b (Ok x) (Err (Bad 0)) ≡ Err Memory → ⊥
where_memory true x e = absurd cc
where_memory false x e = absurd cc

-- ---- one byte

byte_judged-ok : (c : Bool) (b n k : ℕ) → byte_judged b c ≡ Ok (n, k) → (c ≡ true) × (b ≡ n) × (1 ≡ k)
byte_judged-ok true b n k e = let same = answer_is (b, 1) (n, k) e in (refl, ap (λ (r : ℕ × ℕ). r.0) same, ap (λ (r : ℕ × ℕ). r.1) same)
byte_judged-ok false b n k e = absurd cc

byte_judged-bad : (c : Bool) (b p : ℕ) → byte_judged b c ≡ Err (Bad p) → p ≡ 0
byte_judged-bad true b p e = absurd cc
byte_judged-bad false b p e = sym (place_is {A = ℕ × ℕ} 0 p e)

pub both_true : (a b : Bool) → (a && b) ≡ true → (a ≡ true) × (b ≡ true)
both_true true b e = (refl, e)
both_true false b e = absurd cc

byte_read : (least most n : ℕ) (rest : List ℕ) → least ≤ n → n ≤ most → byte_within least most (n ∷ rest) ≡ Ok (n, 1)
byte_read least most n rest a b = rw (le-leb least n a, le-leb n most b) refl

byte_spelled : (least most : ℕ) (input : List ℕ) (n k : ℕ) → byte_within least most input ≡ Ok (n, k) → ((least ≤ n) × (n ≤ most)) × (take k input ≡ n ∷ []) × (k ≤ length input)
byte_spelled least most [] n k e = absurd cc
byte_spelled least most (b ∷ rest) n k e =
    let j = byte_judged-ok (leb least b && leb b most) b n k e in
    let t = both_true (leb least b) (leb b most) j.0 in
    let low : least ≤ b = leb-true _ _ t.0 in
    let high : b ≤ most = leb-true _ _ t.1 in
    let spells : take 1 (b ∷ rest) ≡ n ∷ [] = ap (λ (m : ℕ). m ∷ []) j.1 in
    ((omega (arith, j.1), omega (arith, j.1)), ap (λ (m : ℕ). take m (b ∷ rest)) (sym j.2) ∙ spells, omega (arith, j.2))

byte_bad : (least most : ℕ) (input : List ℕ) (p : ℕ) → byte_within least most input ≡ Err (Bad p) → p < length input
byte_bad least most [] p e = absurd cc
byte_bad least most (b ∷ rest) p e = omega (arith, byte_judged-bad (leb least b && leb b most) b p e)

byte_judged-memory : (c : Bool) (b : ℕ) → byte_judged b c ≡ Err Memory → ⊥
byte_judged-memory true b e = absurd cc
byte_judged-memory false b e = absurd cc

byte_no_memory : (least most : ℕ) (input : List ℕ) → byte_within least most input ≡ Err Memory → ⊥
byte_no_memory least most [] e = absurd cc
byte_no_memory least most (b ∷ rest) e = byte_judged-memory (leb least b && leb b most) b e

pub byte-codec : (least most : ℕ) → IsCodec (λ n. n ∷ []) (λ n. (least ≤ n) × (n ≤ most)) (byte_within least most)
byte-codec least most = record {
  read_back = λ n rest h. byte_read least most n rest h.0 h.1;
  one_spelling = λ input n k bytes e. byte_spelled least most input n k e;
  bad_within = λ input p bytes e. byte_bad least most input p e;
  no_memory = λ input bytes e. byte_no_memory least most input e;
}

-- ---- a truth value

truth_read : (b : Bool) (rest : List ℕ) → truth (truth_byte b ∷ rest) ≡ Ok (b, 1)
truth_read false rest = refl
truth_read true rest = refl

truth_spelled : (input : List ℕ) (r : Bool × ℕ) → truth input ≡ Ok r → Unit {0} × (take r.1 input ≡ truth_byte r.0 ∷ []) × (r.1 ≤ length input)
truth_spelled [] r e = absurd cc
truth_spelled (zero ∷ rest) r e = subst (λ (q : Bool × ℕ). Unit {0} × (take q.1 (0 ∷ rest) ≡ truth_byte q.0 ∷ []) × (q.1 ≤ length (0 ∷ rest))) (answer_is (false, 1) r e) (tt, refl, omega arith)
truth_spelled (suc zero ∷ rest) r e = subst (λ (q : Bool × ℕ). Unit {0} × (take q.1 (1 ∷ rest) ≡ truth_byte q.0 ∷ []) × (q.1 ≤ length (1 ∷ rest))) (answer_is (true, 1) r e) (tt, refl, omega arith)
truth_spelled (suc (suc b) ∷ rest) r e = absurd cc

truth_bad : (input : List ℕ) (p : ℕ) → truth input ≡ Err (Bad p) → p < length input
truth_bad [] p e = absurd cc
truth_bad (zero ∷ rest) p e = absurd cc
truth_bad (suc zero ∷ rest) p e = absurd cc
truth_bad (suc (suc b) ∷ rest) p e = omega (arith, place_is {A = Bool × ℕ} 0 p e)

truth_no_memory : (input : List ℕ) → truth input ≡ Err Memory → ⊥
truth_no_memory [] e = absurd cc
truth_no_memory (zero ∷ rest) e = absurd cc
truth_no_memory (suc zero ∷ rest) e = absurd cc
truth_no_memory (suc (suc b) ∷ rest) e = absurd cc

pub truth_is_codec : IsCodec (λ b. truth_byte b ∷ []) (λ _. Unit {0}) truth
truth_is_codec = record {
  read_back = λ b rest h. truth_read b rest;
  one_spelling = λ input b n bytes e. truth_spelled input (b, n) e;
  bad_within = λ input p bytes e. truth_bad input p e;
  no_memory = λ input bytes e. truth_no_memory input e;
}

-- ---- a number

-- what the bytes of a width must be
pub record IsWide (w : Width) (limit : ℕ) : Type 0 where
  pub some : 0 < byte_len w
  pub len : (n : ℕ) → length (to_be_bytes w n) ≡ byte_len w
  pub back : (bytes : List ℕ) → length bytes ≡ byte_len w → AreBytes bytes → to_be_bytes w (from_be_bytes w bytes) ≡ bytes
  pub again : (n : ℕ) → n < limit → from_be_bytes w (to_be_bytes w n) ≡ n

pub wide16 : IsWide w16 (2 ^ 16)
wide16 = record { some = omega arith; len = λ n. refl; back = λ bytes len fits. be_bytes_2 bytes _ len fits refl; again = λ n lt. from_be_bytes-to_be_bytes_2 n lt }

pub wide32 : IsWide w32 (2 ^ 32)
wide32 = record { some = omega arith; len = λ n. refl; back = λ bytes len fits. be_bytes_4 bytes _ len fits refl; again = λ n lt. from_be_bytes-to_be_bytes_4 n lt }

pub wide64 : IsWide w64 (2 ^ 64)
wide64 = record { some = omega arith; len = λ n. refl; back = λ bytes len fits. be_bytes_8 bytes _ len fits refl; again = λ n lt. from_be_bytes-to_be_bytes_8 n lt }

pub number_front : (w : Width) (limit : ℕ) → IsWide w limit → (input : List ℕ) (n : ℕ) → AreBytes input → byte_len w ≤ length input → from_be_bytes w (take (byte_len w) input) ≡ n → take (byte_len w) input ≡ to_be_bytes w n
number_front w limit wide input n bytes long e =
    sym (wide.back (take (byte_len w) input) (omega (arith, length-take (byte_len w) input)) (AreBytes-take (byte_len w) input bytes)) ∙ ap (to_be_bytes w) e

pub number-codec : (w : Width) (limit most : ℕ) → IsWide w limit → most < limit → IsCodec (to_be_bytes w) (λ n. n ≤ most) (number_to w most)
unfolding number_to
number-codec w limit most wide below = record {
  read_back = λ n rest h.
      let len = wide.len n in
      let long : ltb (length (to_be_bytes w n ++ rest)) (byte_len w) ≡ false = le-ltb _ _ (omega (arith, length-append (to_be_bytes w n) rest)) in
      let low : leb n most ≡ true = le-leb n most h in
      let lt : n < limit = omega arith in
      rw (long, take_at (to_be_bytes w n) rest (byte_len w) len, wide.again n lt, low, len) refl;
  one_spelling = λ input n k bytes e.
      let a = unless_ok (ltb (length input) (byte_len w)) Short _ (n, k) e in
      let b = where_ok (leb (from_be_bytes w (take (byte_len w) input)) most) (Bad 0) _ (n, k) a.1 in
      let long : byte_len w ≤ length input = ltb-false _ _ a.0 in
      let same = answer_is (from_be_bytes w (take (byte_len w) input), byte_len w) (n, k) b.1 in
      let n-is : from_be_bytes w (take (byte_len w) input) ≡ n = ap (λ (r : ℕ × ℕ). r.0) same in
      let k-is : byte_len w ≡ k = ap (λ (r : ℕ × ℕ). r.1) same in
      let low : from_be_bytes w (take (byte_len w) input) ≤ most = leb-true _ _ b.0 in
      let front : take (byte_len w) input ≡ to_be_bytes w n = number_front w limit wide input n bytes long n-is in
      (omega arith, ap (λ (m : ℕ). take m input) (sym k-is) ∙ front, omega arith);
  bad_within = λ input p bytes e.
      let a = unless_bad (ltb (length input) (byte_len w)) _ p e in
      let b = where_bad (leb (from_be_bytes w (take (byte_len w) input)) most) (from_be_bytes w (take (byte_len w) input), byte_len w) 0 p a.1 in
      let long : byte_len w ≤ length input = ltb-false _ _ a.0 in
      omega (arith, wide.some);
  no_memory = λ input bytes e.
      where_memory (leb (from_be_bytes w (take (byte_len w) input)) most) (from_be_bytes w (take (byte_len w) input), byte_len w) (unless_memory (ltb (length input) (byte_len w)) _ e);
}
