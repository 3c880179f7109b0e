-- The spelling, the limits and the reading of the small values.
use Rattle.std.specs.Prelude.{ℕ, ◌≤◌, List, ◌∷◌, ◌++◌}
use Rattle.std.specs.Int.{w64, to_be_bytes}
use Rattle.wire_bytes.specs.declared.mark.Mark.{Mark}
use Rattle.wire_bytes.specs.Limits.{node_limit, number_limit, second_limit}
use Rattle.wire_bytes.specs.Fields.{Reading, byte_within, number_to, both, through}

-- at most 2^60
abbrev pub FitsNumber : ℕ → Type 0
FitsNumber n = n ≤ number_limit

-- eight bytes, at most 2^60
unfoldable pub number : Reading ℕ
number = number_to w64 number_limit

-- no later than the last second
abbrev pub FitsMoment : ℕ → Type 0
FitsMoment n = n ≤ second_limit

-- eight bytes, no later than the last second
unfoldable pub moment : Reading ℕ
moment = number_to w64 second_limit

-- eight bytes, the highest first
unfoldable pub spelled_number : ℕ → List ℕ
spelled_number n = to_be_bytes w64 n

-- a node from 1 to 7, its run and the client
abbrev pub FitsOrigin : ℕ × ℕ × ℕ → Type 0
FitsOrigin o = (1 ≤ o.0) × (o.0 ≤ node_limit) × FitsNumber o.1 × FitsNumber o.2

-- the node, its run and the client
unfoldable pub spelled_origin : ℕ × ℕ × ℕ → List ℕ
spelled_origin o = o.0 ∷ (spelled_number o.1 ++ spelled_number o.2)

-- a node from 1 to 7, and two numbers
unfoldable pub origin : Reading (ℕ × ℕ × ℕ)
origin = through (λ p. (p.0, p.1.0, p.1.1)) (both (byte_within 1 7) (both number number))

-- a node, its run and a number make a mark
abbrev pub mark_of : ℕ × (ℕ × ℕ) → Mark
mark_of p = record { node = p.0; boot = p.1.0; number = p.1.1 }

-- any byte as the node, its run and the number
abbrev pub FitsMark : Mark → Type 0
FitsMark m = (m.node ≤ 255) × FitsNumber m.boot × FitsNumber m.number

-- the node, its run and the number
unfoldable pub spelled_mark : Mark → List ℕ
spelled_mark m = m.node ∷ (spelled_number m.boot ++ spelled_number m.number)

-- a byte, and two numbers
unfoldable pub mark_taken : Reading Mark
mark_taken = through mark_of (both (byte_within 0 255) (both number number))

-- a term and an attempt
abbrev pub FitsSession : ℕ × ℕ → Type 0
FitsSession id = FitsNumber id.0 × FitsNumber id.1

-- the term and the attempt
unfoldable pub spelled_session : ℕ × ℕ → List ℕ
spelled_session id = spelled_number id.0 ++ spelled_number id.1

-- two numbers
unfoldable pub session : Reading (ℕ × ℕ)
session = both number number
