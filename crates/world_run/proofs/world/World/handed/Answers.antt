use Rattle.std.proofs.Common.{ap}
use Rattle.irc_line.specs.declared.line.Line.{Line}
use denote.Bor.{Bor}
use Rattle.world_run.proofs.Handing.{all_is_told, handed_of_world, left_told, rest_told}
use Rattle.raft_node.specs.Hosts.{hosted}
use Rattle.raft_node.specs.Machine.{Machine}
use Rattle.world_run.proofs.world.World.handed.Given as given
use Rattle.world_run.proofs.world.World.handed.Goals.{in-Left+in_ok-push_handed, in_default}
use Rattle.world_run.proofs.world.World.handed.Goals as goal

-- the machine that the nodes host
abbrev machine : (g : given.Over) → g.row.M-Setup.Denot → Machine
machine g s =
    hosted g.M.Hosted.blank g.M.Hosted.opened g.M.Hosted.shut g.M.Hosted.heard g.M.Hosted.claim g.M.Hosted.source (g.M.Machine.effects s)
    (g.M.Hosted.next_claim s) (g.M.Hosted.playback s) g.M.Hosted.class

pub returns-clause-handed : goal.returns-clause-handed
returns-clause-handed g c =
    λ setup. handed_of_world (machine g setup) _ _ (all_is_told g.M.Hosted.class c.outputs-outcome-items.result.now c.loop-outcome.outcome-index _ _ c.loop-outcome-test.false c.loop-outcome.invariant)

pub loop-outcome-preserved : goal.loop-outcome-preserved
loop-outcome-preserved g c =
    let outs = c.outputs-outcome-items.result.now in
    let k = c.loop-outcome.outcome-index in
    let lines = c.loop-outcome.lines.items in
    elim c.match-outcome.branch [
      | in-Left+in_ok-push_handed w ↦
          left_told g.M.Hosted.class (λ (l : Bor Line). l.now) outs k c.outcome-item.result w.in-Left.place w.in-Left.effects w.deref.result.now lines w.push_handed.new.lines.items c.match-outcome.lines.items _
          c.loop-outcome-test.true c.outcome-item.is w.in-Left.is w.deref.ensures.value w.in_ok-push_handed.ensures (ap (λ v. v.items) w.lines-is) c.loop-outcome.invariant
      | in_default w ↦
          rest_told g.M.Hosted.class (λ (l : Bor Line). l.now) outs k c.outcome-item.result lines c.match-outcome.lines.items _
          c.loop-outcome-test.true c.outcome-item.is w.in_default.not-Left (ap (λ v. v.items) w.lines-is) c.loop-outcome.invariant
    ]

pub returns-clause-outs : goal.returns-clause-outs
returns-clause-outs g c =
    all_is_told g.M.Hosted.class c.outputs-outcome-items.result.now c.loop-outcome.outcome-index _ _ c.loop-outcome-test.false c.loop-outcome.invariant
