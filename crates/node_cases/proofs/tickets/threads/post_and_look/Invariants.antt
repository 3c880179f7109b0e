use Rattle.ether.specs.Passes.{IsPass}
use Rattle.node_cases.proofs.tickets.threads.post_and_look.Given as goal

abbrev pub invariant-loop-look : goal.invariant-loop-look
invariant-loop-look g l = IsPass l.ether l.pass
