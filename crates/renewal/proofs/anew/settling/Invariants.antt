use Rattle.std.proofs.Common.{◌≡◌, map, take}
use Rattle.buffer_commands.specs.declared.command.Command.TheVariants.{NodeGone}
use Rattle.bouncer_tower.specs.Hosting.{of_buffers}
use Rattle.renewal.proofs.anew.settling.Given as goal

abbrev pub invariant-loop-node : goal.invariant-loop-node
invariant-loop-node l = l.bodies.items ≡ map (λ f. of_buffers (NodeGone f.0 f.1)) (take l.node-index l.floors)
