use Rattle.std.proofs.Common.{rules, take}
use Rattle.bouncer_run.specs.Hearing.{takes_of_server}
use Rattle.bouncer_run.proofs.Heard.{heard_more}
use Rattle.bouncer_run.proofs.hearing.hear_server.Goals as goal

pub loop-preserved : goal.loop-preserved
loop-preserved g c = (
  heard_more (takes_of_server c.args.now.now) (g.S.Read.remaining c.args.connection.now.stream)
      (g.S.Read.remaining c.loop.connection.stream) (g.S.Read.remaining c.next_of_server.new.connection.stream)
      (take c.in-Bytes.count c.next_of_server.new.piece) c.args.driver.now c.loop.driver c.receive_line.new.self
      c.loop.invariant.0 c.in-Bytes.ensures.gives.1 c.in_ok-receive_line-in-Bytes.ensures,
  search rules,
)
