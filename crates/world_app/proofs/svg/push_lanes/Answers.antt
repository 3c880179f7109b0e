use Rattle.std.proofs.Common.{arith}
use Rattle.world_app.specs.Picture.{lane}
use Rattle.world_app.proofs.Ranges.{next_text}
use Rattle.world_app.proofs.svg.push_lanes.Goals as goal

pub loop-node-preserved : goal.loop-node-preserved
loop-node-preserved c =
    (omega arith, next_text (lane c.args.last c.args.rows.now) c.loop-node.node c.args.size c.loop-node.out.items c.push_lane.new.out.items _ c.loop-node-test.true c.in_ok-push_lane.ensures c.loop-node.invariant.1)
