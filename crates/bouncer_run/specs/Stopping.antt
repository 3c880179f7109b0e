-- The end of the loop, which waits for clients that are still written to.
use Rattle.std.specs.Prelude.{ℕ, ◌+◌, ◌^◌, ◌-◌, min, nat_le, Bool, false, ◌||◌, Option, Some, None}
use Rattle.bouncer_run.specs.declared.stopping.TheConstants.{LONGEST_STOP}

-- until when clients may stay: this long after this moment, if the end was not begun before
abbrev pub begun : ℕ → Option ℕ → Option ℕ
begun now None = Some (min (now + LONGEST_STOP) (2 ^ 64 - 1))
begun now (Some until) = Some until

-- the end was begun, and no client is left, or they may stay no longer
abbrev pub is_over : Option ℕ → ℕ → Bool → Bool
is_over None now empty = false
is_over (Some until) now empty = empty || nat_le until now
