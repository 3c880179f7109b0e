-- Values as bytes, field by field: what is read at the front of an input, and how long it is.
use Rattle.std.specs.Prelude.{ℕ, zero, suc, ◌+◌, ◌==◌, ◌<◌, Bool, true, false, ◌&&◌, if◌then◌else◌, nat_le, nat_lt, List, [], ◌∷◌, ◌++◌, length, take, drop, Option, Some, None, Result, Ok, Err, is_ok, slice_index}
use Rattle.std.specs.Int.{Width, byte_len, from_be_bytes}
use Rattle.wire_bytes.specs.declared.wire_fault.WireFault.{WireFault}
use Rattle.wire_bytes.specs.declared.wire_fault.WireFault.TheVariants.{Short, Bad, Memory}

-- each number is a byte
abbrev pub AreBytes : List ℕ → Type 0
AreBytes bytes = (i : ℕ) → slice_index bytes i < 256

-- what is there after an append that returned this: these bytes after the others, or the others alone
abbrev pub appended : {A E : Type 0} → Result A E → List ℕ → List ℕ → List ℕ
appended result old more = if is_ok result then old ++ more else old

-- the value at the front of an input and its length, or what is wrong; a place is counted from the front
abbrev pub Reading : Type 0 → Type 0
Reading X = List ℕ → Result (X × ℕ) WireFault

-- no byte is read
abbrev pub done : {X : Type 0} → X → Reading X
done v input = Ok (v, 0)

-- a fault of what follows this many bytes
abbrev pub shifted : ℕ → WireFault → WireFault
shifted n Short = Short
shifted n (Bad place) = Bad (n + place)
shifted n Memory = Memory

-- what was read after this many bytes, these counted too
abbrev pub moved : {X : Type 0} → ℕ → Result (X × ℕ) WireFault → Result (X × ℕ) WireFault
moved n (Ok r) = Ok (r.0, n + r.1)
moved n (Err e) = Err (shifted n e)

-- the same reading after this many bytes of the input
unfoldable pub behind : {X : Type 0} → ℕ → Reading X → Reading X
behind n reading input = moved n (reading (drop n input))

-- goes on with what was read, or stops at the first fault
abbrev pub goes_on : {X Y : Type 0} → Result (X × ℕ) WireFault → (X → ℕ → Result (Y × ℕ) WireFault) → Result (Y × ℕ) WireFault
goes_on (Ok r) next = next r.0 r.1
goes_on (Err e) next = Err e

infixl 10 ◌>>=◌
-- one reading after another, which may look at what the first one read
unfoldable pub ◌>>=◌ : {X Y : Type 0} → Reading X → (X → Reading Y) → Reading Y
(first >>= next) input = goes_on (first input) (λ x n. behind n (next x) input)

-- what is read, through a constructor
unfoldable pub through : {X Y : Type 0} → (X → Y) → Reading X → Reading Y
through make reading = reading >>= λ x. done (make x)

-- two readings, one after the other
unfoldable pub both : {X Y : Type 0} → Reading X → Reading Y → Reading (X × Y)
both first second = first >>= λ x. through (λ y. (x, y)) second

-- what was read, where it passes this test; else it is refused at its first byte
abbrev pub tested : {X : Type 0} → (X → Bool) → Result (X × ℕ) WireFault → Result (X × ℕ) WireFault
tested test (Ok r) = if test r.0 then Ok r else Err (Bad 0)
tested test (Err e) = Err e

-- a reading of those values alone that pass this test
unfoldable pub only : {X : Type 0} → (X → Bool) → Reading X → Reading X
only test reading input = tested test (reading input)

-- the first reading that is listed for this kind
abbrev pub reading_of : {X : Type 0} → ℕ → List (ℕ × Reading X) → Option (Reading X)
reading_of kind [] = None
reading_of kind (c ∷ cases) = if kind == c.0 then Some c.1 else reading_of kind cases

-- what is read after the kind byte, where a reading was listed for it
abbrev pub chosen : {X : Type 0} → Option (Reading X) → Reading X
chosen None input = Err (Bad 0)
chosen (Some reading) input = behind 1 reading input

-- a kind byte, and after it the reading that is listed for it; any other kind byte is refused
abbrev pub choice : {X : Type 0} → List (ℕ × Reading X) → Reading X
choice cases [] = Err Short
choice cases (kind ∷ rest) = chosen (reading_of kind cases) (kind ∷ rest)

-- a byte, where the answer to its test is yes
abbrev pub byte_judged : ℕ → Bool → Result (ℕ × ℕ) WireFault
byte_judged b true = Ok (b, 1)
byte_judged b false = Err (Bad 0)

-- one byte between these limits
abbrev pub byte_within : ℕ → ℕ → Reading ℕ
byte_within least most [] = Err Short
byte_within least most (b ∷ rest) = byte_judged b (nat_le least b && nat_le b most)

-- a truth value: one byte, 0 or 1
abbrev pub truth : Reading Bool
truth [] = Err Short
truth (zero ∷ rest) = Ok (false, 1)
truth (suc zero ∷ rest) = Ok (true, 1)
truth (suc (suc b) ∷ rest) = Err (Bad 0)

-- how a truth value is spelled
abbrev pub truth_byte : Bool → ℕ
truth_byte false = 0
truth_byte true = 1

-- a number in as many bytes as the width has, the highest first, and at most this large
unfoldable pub number_to : Width → ℕ → Reading ℕ
number_to width most input =
    if nat_lt (length input) (byte_len width)
    then Err Short
    else (if nat_le (from_be_bytes width (take (byte_len width) input)) most then Ok (from_be_bytes width (take (byte_len width) input), byte_len width) else Err (Bad 0))
