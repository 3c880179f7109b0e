use Rattle.node_cases.specs.Seats.{IsSeated}
use Rattle.node_cases.proofs.tickets.seated.Seated.beat.Given as goal

abbrev pub invariant-loop-round : goal.invariant-loop-round
invariant-loop-round g l = IsSeated l.ether l.self.pass l.self.node l.self.sent
