use Rattle.bouncer_run.specs.Moving.{Moves}
use Rattle.bouncer_run.proofs.outgoing.Outgoing.write_to.Given as goal

-- what was taken so far left the front
abbrev pub invariant-loop : goal.invariant-loop
invariant-loop g l = Moves l.initial.self l.self (g.W.Write.contents l.initial.writer) (g.W.Write.contents l.writer)
