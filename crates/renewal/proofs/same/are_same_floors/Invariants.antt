use Rattle.std.proofs.Common.{◌≡◌, ℕ, ◌<◌}
use Rattle.machine_laws.specs.Runs.{History}
use Rattle.buffer_commands.specs.Settings.{Settings}
use Rattle.buffer_commands.specs.declared.command.Command.{Command}
use Rattle.buffer_machine.specs.Crowd.{floor}
use Rattle.buffer_machine.specs.Held.{commands}
use Rattle.buffer_machine.specs.Machine.{Stands}
use Rattle.renewal.proofs.same.are_same_floors.Given as goal

abbrev pub invariant-loop-node : goal.invariant-loop-node
invariant-loop-node l =
    (s t : Settings) (old new : History Command) → Stands l.a s old → Stands l.b t new
    → (node : ℕ) → node < l.node → floor (commands new) node ≡ floor (commands old) node
