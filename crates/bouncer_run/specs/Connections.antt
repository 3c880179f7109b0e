-- What is read from a connection, and what waits to be written to it.
use Rattle.std.specs.Prelude.{ℕ, ◌+◌, ◌-◌, nat_le, nat_lt, if◌then◌else◌, Bool, true, false, List, length, ◌++◌}
use Rattle.bouncer_run.specs.declared.connection.TheConstants.{LONGEST_END, MOST_UNSENT}
use Rattle.bouncer_run.specs.declared.connection.Got.{Got}
use Rattle.bouncer_run.specs.declared.connection.Got.TheVariants.{Bytes, Nothing, End, Later}
use Rattle.bouncer_run.specs.declared.connection.Phase.{Phase}
use Rattle.bouncer_run.specs.declared.connection.Phase.TheVariants.{Open, Ending}

-- nothing was read, since what it would bring has to wait
abbrev pub is_later : Got → Bool
is_later (Bytes count) = false
is_later Nothing = false
is_later (End why) = false
is_later Later = true

-- a connection is to be closed
abbrev pub is_ending : Phase → Bool
is_ending Open = false
is_ending (Ending since) = true

-- what waits after bytes are to be written: they come after the others, unless the connection is to
-- be closed
abbrev pub gathered : Phase → List ℕ → List ℕ → List ℕ
gathered Open waiting bytes = waiting ++ bytes
gathered (Ending since) waiting bytes = waiting

-- it is to be closed, as of this moment if it was not before
abbrev pub ended : ℕ → Phase → Phase
ended now Open = Ending now
ended now (Ending since) = Ending since

-- a byte was taken at this moment
abbrev pub took : ℕ → Phase → Phase
took now Open = Open
took now (Ending since) = Ending now

-- after a write, if this many bytes waited before it and after it
abbrev pub phase_after : ℕ → ℕ → ℕ → Phase → Phase
phase_after now before after phase = if nat_lt after before then took now phase else phase

-- at most MOST_UNSENT bytes wait then
abbrev pub may_wait : Phase → List ℕ → List ℕ → Bool
may_wait Open waiting bytes = nat_le (length waiting + length bytes) MOST_UNSENT
may_wait (Ending since) waiting bytes = true

-- a connection is to be closed, and has taken no byte for this long
abbrev pub is_late : Phase → ℕ → Bool
is_late Open now = false
is_late (Ending since) now = nat_le LONGEST_END (now - since)
