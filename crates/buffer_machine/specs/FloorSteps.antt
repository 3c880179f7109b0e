-- One step of the machine, on the floors that it holds.
use Rattle.std.specs.Prelude.{ℕ, if◌then◌else◌, nat_lt, max, List, length, slice_index, slice_set}
use Rattle.buffer_commands.specs.declared.command.Command.{Command}
use Rattle.buffer_commands.specs.declared.command.Command.TheVariants.{Client, NodeGone}

-- a node's floor, raised to at least this one
abbrev pub raised : ℕ → ℕ → List ℕ → List ℕ
raised node floor floors = if nat_lt node (length floors) then slice_set floors node (max (slice_index floors node) floor) else floors

-- the floors after a command
abbrev pub floors_after : List ℕ → Command → List ℕ
floors_after floors (NodeGone node floor) = raised node floor floors
floors_after floors _ = floors

-- the floor of the node of a command's client
abbrev pub floor_for : List ℕ → Command → ℕ
floor_for floors (Client o at action) = slice_index floors o.0
floor_for floors _ = 0
