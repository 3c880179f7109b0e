-- Which inputs may need memory: those with a value at their front that is kept apart from the input.
use Rattle.std.specs.Prelude.{ℕ, Bool, false, ◌||◌, ◌==◌, if◌then◌else◌, List, [], ◌∷◌, drop, Result, Ok, Err, is_ok}
use Rattle.wire_bytes.specs.declared.wire_fault.WireFault.{WireFault}
use Rattle.wire_bytes.specs.Fields.{Reading}

-- whether reading an input may need memory, for each input
abbrev pub Wants : Type 0
Wants = List ℕ → Bool

-- a value that is held in place
abbrev pub never : Wants
never input = false

-- a value that is copied, once all of it is there
abbrev pub once_whole : {X : Type 0} → Reading X → Wants
once_whole reading input = is_ok (reading input)

-- what follows a value that was read
abbrev pub wants_next : {X : Type 0} → Result (X × ℕ) WireFault → Wants → Wants
wants_next (Ok r) wants input = wants (drop r.1 input)
wants_next (Err e) wants input = false

-- a value after another that is held in place
abbrev pub wants_behind : {X : Type 0} → Reading X → Wants → Wants
wants_behind reading wants input = wants_next (reading input) wants input

-- the first of two values, or the second after the first
abbrev pub wants_both : {X : Type 0} → Wants → Reading X → Wants → Wants
wants_both first reading second input = first input || wants_next (reading input) second input

-- what is listed for a kind
abbrev pub wants_of : ℕ → List (ℕ × Wants) → Wants
wants_of kind [] rest = false
wants_of kind (c ∷ cases) rest = if kind == c.0 then c.1 rest else wants_of kind cases rest

-- a kind byte, and after it what is listed for it
abbrev pub wants_choice : List (ℕ × Wants) → Wants
wants_choice cases [] = false
wants_choice cases (kind ∷ rest) = wants_of kind cases rest
