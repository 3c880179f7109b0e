use Rattle.std.specs.Prelude.{◌≡◌}
use Rattle.bouncer_run.specs.Hearing.{HasHeard, takes_of_server}
use Rattle.bouncer_run.proofs.hearing.hear_server.Given as goal

-- what was read so far went to the driver
abbrev pub invariant-loop : goal.invariant-loop
invariant-loop g l =
    HasHeard (takes_of_server l.fn.now) (g.S.Read.remaining l.initial.connection.stream) (g.S.Read.remaining l.connection.stream) l.initial.driver l.driver
    × (l.connection ≡ record l.initial.connection { stream = l.connection.stream })
