-- What lower-case hex digits encode, and that nothing else encodes bytes.
use Rattle.std.proofs.Common.{◌≡◌, ◌≢◌, ℕ, ◌+◌, ◌*◌, ◌/◌, ◌%◌, Bool, true, false, ◌&&◌, List, [], ◌∷◌, length, Some, None, Result, Ok, Err, refl, arith}
use Rattle.std.specs.Prelude.{if◌then◌else◌, ◌==◌}
use Rattle.std.specs.List.{list_all}
use Rattle.std.proofs.lemmas.Bool.Decides.{nat_tests}
use Rattle.irc_line.proofs.Booleans.{and_left, and_right, and_both}
use Rattle.hex.specs.Hex.{hex_digit_value, decode_pairs, decode_of, ◌>>=◌}
use Rattle.hex.specs.declared.error.FromHexError.{FromHexError}
use Rattle.hex.specs.declared.error.FromHexError.TheVariants.{OddLength}
use Rattle.fold_app.specs.Lines.{is_lower, of_result, hex_bytes}
use Rattle.fold_app.specs.Digits.{is_digit, digit_value, bytes_of}

digit_is : (b : ℕ) → is_digit b ≡ true → hex_digit_value b ≡ Some (digit_value b)
digit_is b h = grind (arith, nat_tests)

digit_is_lower : (b : ℕ) → is_digit b ≡ true → is_lower b ≡ true
digit_is_lower b h = grind (arith, nat_tests)

other_is_none : (b : ℕ) → is_digit b ≡ false → is_lower b ≡ true → hex_digit_value b ≡ None
other_is_none b h l = grind (arith, nat_tests)

all_lower : (s : List ℕ) → list_all is_digit s ≡ true → list_all is_lower s ≡ true
all_lower [] h = refl
all_lower (b ∷ s) h = and_both (is_lower b) _ (digit_is_lower b (and_left (is_digit b) _ h)) (all_lower s (and_right (is_digit b) _ h))

pairs_read : (i : ℕ) (s : List ℕ) → list_all is_digit s ≡ true → length s % 2 ≢ 1 → decode_pairs i s ≡ Ok (bytes_of s)
unfolding decode_pairs
pairs_read i [] h e = refl
pairs_read i (b ∷ []) h e = absurd (e refl)
pairs_read i (x ∷ y ∷ s) h e =
    let after : list_all is_digit (y ∷ s) ≡ true = and_right (is_digit x) _ h in
    let dx : hex_digit_value x ≡ Some (digit_value x) = digit_is x (and_left (is_digit x) _ h) in
    let dy : hex_digit_value y ≡ Some (digit_value y) = digit_is y (and_left (is_digit y) _ after) in
    let ih : decode_pairs (i + 2) s ≡ Ok (bytes_of s) = pairs_read (i + 2) s (and_right (is_digit y) _ after) (λ o. e (omega arith)) in
    rw (dx, dy, ih) refl

none_behind : {A B : Type 0} (r : Result A FromHexError) (f : A → Result B FromHexError) → of_result r ≡ None → of_result (r >>= f) ≡ None
none_behind (Ok v) f h = cc
none_behind (Err e) f h = refl

stops_by : (i x y : ℕ) (s : List ℕ) (a b : Bool) → is_digit x ≡ a → is_digit y ≡ b → is_lower x ≡ true → is_lower y ≡ true → (a && (b && list_all is_digit s)) ≡ false
    → (list_all is_digit s ≡ false → of_result (decode_pairs (i + 2) s) ≡ None) → of_result (decode_pairs i (x ∷ y ∷ s)) ≡ None
unfolding decode_pairs
stops_by i x y s false b e f l m d ih = let n : hex_digit_value x ≡ None = other_is_none x e l in rw n refl
stops_by i x y s true false e f l m d ih =
    let dx : hex_digit_value x ≡ Some (digit_value x) = digit_is x e in
    let n : hex_digit_value y ≡ None = other_is_none y f m in
    rw (dx, n) refl
stops_by i x y s true true e f l m d ih =
    let dx : hex_digit_value x ≡ Some (digit_value x) = digit_is x e in
    let dy : hex_digit_value y ≡ Some (digit_value y) = digit_is y f in
    rw (dx, dy) (none_behind (decode_pairs (i + 2) s) _ (ih d))

stops : (i : ℕ) (s : List ℕ) → list_all is_lower s ≡ true → list_all is_digit s ≡ false → of_result (decode_pairs i s) ≡ None
unfolding decode_pairs
stops i [] l d = cc
stops i (b ∷ []) l d = refl
stops i (x ∷ y ∷ s) l d =
    let after : list_all is_lower (y ∷ s) ≡ true = and_right (is_lower x) _ l in
    stops_by i x y s (is_digit x) (is_digit y) refl refl (and_left (is_lower x) _ l) (and_left (is_lower y) _ after) d (λ n. stops (i + 2) s (and_right (is_lower y) _ after) n)

odd_by : (lower odd : Bool) (r : Result (List ℕ) FromHexError) → of_result r ≡ None → (if lower then of_result (if odd then Err OddLength else r) else None) ≡ None
odd_by true true r h = refl
odd_by true false r h = h
odd_by false odd r h = refl

hex_by : (s : List ℕ) (b : Bool) → list_all is_lower s ≡ b → list_all is_digit s ≡ false → (if b then of_result (decode_of s) else None) ≡ None
hex_by s true e d = odd_by true (length s % 2 == 1) (decode_pairs 0 s) (stops 0 s e d)
hex_by s false e d = refl

-- other bytes encode nothing
pub not_digits : (s : List ℕ) → list_all is_digit s ≡ false → hex_bytes s ≡ None
unfolding hex_bytes
not_digits s d = hex_by s (list_all is_lower s) refl d

even_by : (b : Bool) (r : Result (List ℕ) FromHexError) → of_result r ≡ None → (if b then of_result r else None) ≡ None
even_by true r h = h
even_by false r h = refl

odd_is : (n : ℕ) → n % 2 ≡ 1 → (n % 2 == 1) ≡ true
odd_is n h = grind (arith, nat_tests)

even_is : (n : ℕ) → n % 2 ≢ 1 → (n % 2 == 1) ≡ false
even_is n h = grind (arith, nat_tests)

-- an odd number of digits encodes nothing
pub not_even : (s : List ℕ) → length s % 2 ≡ 1 → hex_bytes s ≡ None
unfolding hex_bytes
not_even s h = rw (odd_is (length s) h) (even_by (list_all is_lower s) (Err OddLength) refl)

-- and an even number of digits their bytes
pub digits_spell : (s : List ℕ) → list_all is_digit s ≡ true → length s % 2 ≢ 1 → hex_bytes s ≡ Some (bytes_of s)
unfolding hex_bytes
digits_spell s h e = rw (all_lower s h, even_is (length s) e, pairs_read 0 s h e) refl

pub value_is : (b : ℕ) → is_digit b ≡ true → b % 16 + 9 * (b / 64) ≡ digit_value b
value_is b h = grind (arith, nat_tests)
