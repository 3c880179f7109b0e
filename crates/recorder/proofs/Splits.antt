-- Where texts are split in two.
use Rattle.std.proofs.Common.{◌≡◌, ℕ, zero, suc, ◌+◌, ◌<◌, ◌≤◌, ◌^◌, Bool, true, false, cond, List, [], ◌∷◌, ◌++◌, length, take, drop, get_or, refl, sym, ap, arith}
use Rattle.std.specs.Prelude.{◌==◌, if◌then◌else◌, nat_lt, Option, Some, None, position, decimal}
use Rattle.std.specs.List.{position_or_len}
use Rattle.std.specs.Str.Parse.{AllDigits}
use Rattle.std.proofs.lemmas.Bool.Decides.{nat_tests}
use Rattle.std.proofs.lemmas.Fmt.{digits_decimal}
use Rattle.std.proofs.lemmas.Str.Parse.{numerals_by_value, tells_digits, digit_from_value}
use Rattle.std.proofs.lemmas.List.Quantifiers.{position-Some}
use Rattle.std.proofs.lemmas.List.Sums.{fails_before_first}
use Rattle.recorder.specs.Splits.{put_first, split_at}

at_index : (m : ℕ) (xs : List ℕ) (i : ℕ) → i < length xs → (get_or xs i 0 == m) ≡ true → ((k : ℕ) → k < i → (get_or xs k 0 == m) ≡ false) → split_at m xs ≡ Some (take i xs, drop (i + 1) xs)
at_index m [] i lt here before = absurd (omega arith)
at_index m (b ∷ xs) zero lt here before = rw here refl
at_index m (b ∷ xs) (suc i) lt here before =
    let first : (b == m) ≡ false = before 0 (omega arith) in
    let ih : split_at m xs ≡ Some (take i xs, drop (i + 1) xs) = at_index m xs i (omega arith) here (λ k l. before (suc k) (omega arith)) in
    let one : suc i + 1 ≡ suc (i + 1) = omega arith in
    rw (first, ih, one) refl

-- where the byte is found, the text is split
pub found : (m : ℕ) (xs : List ℕ) (i : ℕ) → position (λ b. b == m) xs ≡ Some i → split_at m xs ≡ Some (take i xs, drop (i + 1) xs)
found m xs i h = let p = position-Some (λ b. b == m) xs i 0 h in at_index m xs i p.0 p.1 p.2

no_index : (m : ℕ) (xs : List ℕ) → ((k : ℕ) → k < length xs → (get_or xs k 0 == m) ≡ false) → split_at m xs ≡ None
no_index m [] before = refl
no_index m (b ∷ xs) before =
    let first : (b == m) ≡ false = before 0 (omega arith) in
    let ih : split_at m xs ≡ None = no_index m xs (λ k l. before (suc k) (omega arith)) in
    rw (first, ih) refl

missing_by : (m : ℕ) (xs : List ℕ) (n : ℕ) (t : Bool) → nat_lt n (length xs) ≡ t → cond t (Some n) None ≡ None → length xs ≤ n
missing_by m xs n true e h = absurd cc
missing_by m xs n false e h = grind (arith, nat_tests)

-- where it is not found, the text is not split
pub missing : (m : ℕ) (xs : List ℕ) → position (λ b. b == m) xs ≡ None → split_at m xs ≡ None
missing m xs h =
    let n : ℕ = position_or_len (λ b. b == m) xs in
    let long : length xs ≤ n = missing_by m xs n (nat_lt n (length xs)) refl h in
    no_index m xs (λ k l. fails_before_first (λ b. b == m) xs k 0 (omega arith))

joined_by : (m b : ℕ) (front back : List ℕ) (t : Bool) (r s : Option (List ℕ × List ℕ)) → (if t then Some ([], front) else put_first b r) ≡ None → (r ≡ None → s ≡ Some (front, back)) → (if t then Some ([], front ++ m ∷ back) else put_first b s) ≡ Some (b ∷ front, back)
joined_by m b front back true r s h more = absurd cc
joined_by m b front back false None s h more = let e : s ≡ Some (front, back) = more refl in rw e refl
joined_by m b front back false (Some p) s h more = absurd cc

-- a text that lacks the byte, followed by the byte and any text, is split at the byte
pub joined : (m : ℕ) (front back : List ℕ) → split_at m front ≡ None → split_at m (front ++ m ∷ back) ≡ Some (front, back)
joined m [] back h = let same : (m == m) ≡ true = grind (arith, nat_tests) in rw same refl
joined m (b ∷ front) back h = joined_by m b front back (b == m) (split_at m front) (split_at m (front ++ m ∷ back)) h (joined m front back)

parts_by : (m b : ℕ) (rest front back : List ℕ) (t : Bool) (r : Option (List ℕ × List ℕ)) → (b == m) ≡ t → (if t then Some ([], rest) else put_first b r) ≡ Some (front, back)
    → ((f k : List ℕ) → r ≡ Some (f, k) → f ++ m ∷ k ≡ rest) → front ++ m ∷ back ≡ b ∷ rest
parts_by m b rest front back true r e h more =
    let same : m ≡ b = grind (arith, nat_tests) in
    let pair : ([], rest) ≡ (front, back) = cc in
    let f : front ≡ [] = sym (ap (λ (x : List ℕ × List ℕ). x.0) pair) in
    let k : back ≡ rest = sym (ap (λ (x : List ℕ × List ℕ). x.1) pair) in
    rw (f, k, same) refl
parts_by m b rest front back false None e h more = absurd cc
parts_by m b rest front back false (Some p) e h more =
    let same : (b ∷ p.0, p.1) ≡ (front, back) = cc in
    let f : front ≡ b ∷ p.0 = sym (ap (λ (x : List ℕ × List ℕ). x.0) same) in
    let k : back ≡ p.1 = sym (ap (λ (x : List ℕ × List ℕ). x.1) same) in
    rw (f, k) (ap (λ (l : List ℕ). b ∷ l) (more p.0 p.1 refl))

-- the parts make the text
pub parts : (m : ℕ) (xs front back : List ℕ) → split_at m xs ≡ Some (front, back) → front ++ m ∷ back ≡ xs
parts m [] front back h = absurd cc
parts m (b ∷ rest) front back h = parts_by m b rest front back (b == m) (split_at m rest) refl h (parts m rest)

digits_lack : (m : ℕ) (ds : List ℕ) → m < 48 → AllDigits 10 ds → split_at m ds ≡ None
digits_lack m [] lt all = refl
digits_lack m (d ∷ ds) lt all =
    let k = digit_from_value d all.0 in
    let first : (d == m) ≡ false = grind (arith, nat_tests) in
    let ih : split_at m ds ≡ None = digits_lack m ds lt all.1 in
    rw (first, ih) refl

-- a number consists of digits
pub number_lacks : (m n : ℕ) → m < 48 → n < 2 ^ 64 → split_at m (decimal n) ≡ None
number_lacks m n lt small = digits_lack m (decimal n) lt (digits_decimal (numerals_by_value _ tells_digits) n small)
