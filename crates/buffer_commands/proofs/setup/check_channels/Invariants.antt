use Rattle.std.proofs.Common.{◌≡◌, drop}
use Rattle.buffer_commands.specs.Settings.{order_fault}
use Rattle.buffer_commands.proofs.setup.check_channels.Given as goal

abbrev pub invariant-loop-place : goal.invariant-loop-place
invariant-loop-place l = order_fault l.place (drop l.place l.channels) ≡ order_fault 0 l.channels
