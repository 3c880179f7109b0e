use Rattle.std.proofs.Common.{◌≡◌, ◌++◌, drop, map}
use Rattle.node_cells.specs.Sending.{to_of}
use Rattle.node_cells.proofs.copying.addressees.Given as goal

abbrev pub invariant-loop-message : goal.invariant-loop-message
invariant-loop-message g l = l.all.items ++ map to_of (drop l.message-index l.messages) ≡ map to_of l.messages
