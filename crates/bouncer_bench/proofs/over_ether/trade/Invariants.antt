use Rattle.bouncer_bench.specs.Ready.{IsReady}
use Rattle.bouncer_bench.proofs.over_ether.trade.Given as goal

abbrev pub invariant-loop-round : goal.invariant-loop-round
invariant-loop-round g l = IsReady l.ether l.pass l.from l.to
