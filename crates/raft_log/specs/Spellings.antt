-- Bodies as bytes: a body has its length before it, in four bytes.
use Rattle.std.specs.Prelude.{ℕ, ◌+◌, ◌==◌, ◌≤◌, ◌||◌, if◌then◌else◌, List, ◌++◌, length, take, drop, Result, Ok, Err, is_ok}
use Rattle.std.specs.Int.{w32, to_be_bytes}
use Rattle.wire_bytes.specs.declared.wire_fault.WireFault.{WireFault}
use Rattle.wire_bytes.specs.declared.wire_fault.WireFault.TheVariants.{Bad}
use Rattle.wire_bytes.specs.Fields.{Reading, number_to, behind, goes_on}
use Rattle.wire_bytes.specs.Wants.{Wants, wants_next}
use Rattle.wire_bytes.specs.Limits.{body_limit}

-- four bytes, at most 65,536
abbrev pub body_length : Reading ℕ
body_length = number_to w32 body_limit

-- what was read, if it ends here; else its length is refused
abbrev pub ending_at : {X : Type 0} → ℕ → Result (X × ℕ) WireFault → Result (X × ℕ) WireFault
ending_at end (Ok r) = if r.1 == end then Ok r else Err (Bad 0)
ending_at end (Err e) = Err e

-- a length and a value after it, which are compared once the value is whole
unfoldable pub measured : {X : Type 0} → Reading X → Reading X
measured reading input = goes_on (body_length input) (λ n k. ending_at (k + n) (behind k reading input))

-- the length in four bytes, and the spelling
unfoldable pub spelled_measured : {X : Type 0} → (X → List ℕ) → X → List ℕ
spelled_measured spelled x = to_be_bytes w32 (length (spelled x)) ++ spelled x

-- bytes written over those at a place
abbrev pub written_over : List ℕ → ℕ → List ℕ → List ℕ
written_over items place bytes = take place items ++ (bytes ++ drop (place + length bytes) items)

-- its spelling has at most 65,536 bytes
abbrev pub FitsMeasured : {X : Type 0} → (X → Type 0) → (X → List ℕ) → X → Type 0
FitsMeasured fits spelled x = fits x × (length (spelled x) ≤ body_limit)

-- memory is needed for what follows a length that was read, where that needs some, and for a body that is there whole,
-- since it is kept apart from the input
abbrev pub wants_measured : {X : Type 0} → Wants → Reading X → Wants
wants_measured wants reading input = wants_next (body_length input) wants input || is_ok (measured reading input)
