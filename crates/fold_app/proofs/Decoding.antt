-- Digits are decoded pair by pair.
use Rattle.std.proofs.Common.{◌≡◌, ℕ, zero, suc, ◌+◌, ◌*◌, ◌<◌, ◌≤◌, Bool, true, false, List, [], ◌∷◌, ◌++◌, length, take, get_or, refl, sym, ap, ◌∙◌, arith}
use Rattle.std.specs.List.{list_all}
use Rattle.std.proofs.Math.ListN.{set}
use Rattle.std.proofs.lemmas.List.{take_all, take_more, take_more_set}
use Rattle.std.proofs.lemmas.List.Folds.{list_all_at}
use Rattle.std.specs.Simd.{first_chunks}
use Rattle.fold_app.specs.Digits.{is_digit, digit_value, bytes_of}

digit_by : (ds : List ℕ) (k d : ℕ) (b : Bool) → is_digit (get_or ds k d) ≡ b → k < length ds → list_all is_digit ds ≡ true → b ≡ true
digit_by ds k d true e lt all = refl
digit_by ds k d false e lt all = let f : list_all is_digit ds ≡ false = list_all_at is_digit ds k d lt e in cc

-- each of the digits is one
pub digit_at : (ds : List ℕ) (k d : ℕ) → k < length ds → list_all is_digit ds ≡ true → is_digit (get_or ds k d) ≡ true
digit_at ds k d lt all = digit_by ds k d (is_digit (get_or ds k d)) refl lt all

pub length_bytes : (ds : List ℕ) (n : ℕ) → length ds ≡ 2 * n → length (bytes_of ds) ≡ n
length_bytes [] n e = omega arith
length_bytes (high ∷ []) n e = absurd (omega arith)
length_bytes (high ∷ low ∷ rest) zero e = absurd (omega arith)
length_bytes (high ∷ low ∷ rest) (suc n) e = let ih : length (bytes_of rest) ≡ n = length_bytes rest n (omega arith) in omega arith

-- the byte of a pair
pub byte_at : (ds : List ℕ) (i : ℕ) → 2 * i + 1 < length ds → get_or (bytes_of ds) i 0 ≡ digit_value (get_or ds (2 * i) 0) * 16 + digit_value (get_or ds (2 * i + 1) 0)
byte_at [] i lt = absurd (omega arith)
byte_at (high ∷ []) i lt = absurd (omega arith)
byte_at (high ∷ low ∷ rest) zero lt = refl
byte_at (high ∷ low ∷ rest) (suc i) lt =
    let a : suc (suc (2 * i)) ≡ 2 * suc i = omega arith in
    let b : suc (suc (2 * i + 1)) ≡ 2 * suc i + 1 = omega arith in
    let first : get_or rest (2 * i) 0 ≡ get_or (high ∷ low ∷ rest) (2 * suc i) 0 = ap (λ (k : ℕ). get_or (high ∷ low ∷ rest) k 0) a in
    let second : get_or rest (2 * i + 1) 0 ≡ get_or (high ∷ low ∷ rest) (2 * suc i + 1) 0 = ap (λ (k : ℕ). get_or (high ∷ low ∷ rest) k 0) b in
    byte_at rest i (omega arith)
    ∙ (ap (λ (x : ℕ). digit_value x * 16 + digit_value (get_or rest (2 * i + 1) 0)) first
    ∙ ap (λ (y : ℕ). digit_value (get_or (high ∷ low ∷ rest) (2 * suc i) 0) * 16 + digit_value y) second)

-- a pair of digits
pub pair_at : (k : ℕ) (ds : List ℕ) (i : ℕ) (d : List ℕ) → i < k → 2 * k ≤ length ds → get_or (first_chunks 2 k ds) i d ≡ get_or ds (2 * i) 0 ∷ get_or ds (2 * i + 1) 0 ∷ []
pair_at zero ds i d lt le = absurd (omega arith)
pair_at (suc k) [] i d lt le = absurd (omega arith)
pair_at (suc k) (high ∷ []) i d lt le = absurd (omega arith)
pair_at (suc k) (high ∷ low ∷ rest) zero d lt le = refl
pair_at (suc k) (high ∷ low ∷ rest) (suc i) d lt le =
    let a : suc (suc (2 * i)) ≡ 2 * suc i = omega arith in
    let b : suc (suc (2 * i + 1)) ≡ 2 * suc i + 1 = omega arith in
    let first : get_or rest (2 * i) 0 ≡ get_or (high ∷ low ∷ rest) (2 * suc i) 0 = ap (λ (k : ℕ). get_or (high ∷ low ∷ rest) k 0) a in
    let second : get_or rest (2 * i + 1) 0 ≡ get_or (high ∷ low ∷ rest) (2 * suc i + 1) 0 = ap (λ (k : ℕ). get_or (high ∷ low ∷ rest) k 0) b in
    pair_at k rest i d (omega arith) (omega arith) ∙ (ap (λ (x : ℕ). x ∷ get_or rest (2 * i + 1) 0 ∷ []) first ∙ ap (λ (y : ℕ). get_or (high ∷ low ∷ rest) (2 * suc i) 0 ∷ y ∷ []) second)

-- one more byte
pub one_more : (bytes ds : List ℕ) (i v : ℕ) → take i bytes ≡ take i (bytes_of ds) → length ds ≡ 2 * length bytes → i < length bytes
    → v ≡ digit_value (get_or ds (2 * i) 0) * 16 + digit_value (get_or ds (2 * i + 1) 0) → take (i + 1) (set bytes i v) ≡ take (i + 1) (bytes_of ds)
one_more bytes ds i v same twice lt e =
    let n : length (bytes_of ds) ≡ length bytes = length_bytes ds (length bytes) twice in
    let b : get_or (bytes_of ds) i 0 ≡ v = byte_at ds i (omega arith) ∙ sym e in
    take_more_set bytes i v lt ∙ (ap (λ (xs : List ℕ). xs ++ v ∷ []) same ∙ (ap (λ (x : ℕ). take i (bytes_of ds) ++ x ∷ []) (sym b) ∙ sym (take_more (bytes_of ds) i 0 (omega arith))))

-- all bytes
pub all_written : (bytes ds : List ℕ) (i : ℕ) → take i bytes ≡ take i (bytes_of ds) → length ds ≡ 2 * length bytes → length bytes ≤ i → bytes ≡ bytes_of ds
all_written bytes ds i same twice le =
    let n : length (bytes_of ds) ≡ length bytes = length_bytes ds (length bytes) twice in
    sym (take_all i bytes le) ∙ (same ∙ take_all i (bytes_of ds) (omega arith))
