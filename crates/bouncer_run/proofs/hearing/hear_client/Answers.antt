use Rattle.std.proofs.Common.{rules, take}
use Rattle.bouncer_run.specs.Hearing.{takes_of_client}
use Rattle.bouncer_run.proofs.Heard.{heard_more}
use Rattle.bouncer_run.proofs.hearing.hear_client.Goals as goal

pub loop-preserved : goal.loop-preserved
loop-preserved g c = (
  heard_more (takes_of_client c.args.now.now c.args.number) (g.S.Read.remaining c.args.connection.now.stream)
      (g.S.Read.remaining c.loop.connection.stream) (g.S.Read.remaining c.next_of_client.new.connection.stream)
      (take c.in-Bytes.count c.next_of_client.new.piece) c.args.driver.now c.loop.driver c.take.new.driver
      c.loop.invariant.0 c.in-Bytes.ensures.gives.1 c.in_ok-take-in-Bytes.ensures,
  search rules,
)
