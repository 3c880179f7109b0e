use Rattle.std.proofs.Common.{List, refl, subst, arith}
use Rattle.std.specs.Vec.Iter.{into_iter_items}
use Rattle.raft_log.specs.declared.message.Message.{Message}
use Rattle.raft_log.specs.declared.step.Step.{Step}
use Rattle.raft_node.specs.declared.input.Input.{Input}
use Rattle.raft_node.specs.declared.together.Together.{Together}
use Rattle.raft_node.specs.Inputs.{Bodies, bodies}
use Rattle.raft_node.specs.Parts.{size_of}
use Rattle.raft_node.specs.Together.{addition_plan}
use Rattle.raft_node.proofs.Adding.{UnderWay, are_planned, counts_within, goes_on, none_left, said, sets_out, together_may_stand}
use Rattle.raft_node.proofs.together.plan_together.Goals as goal

pub loop-input-init : goal.loop-input-init
loop-input-init g c =
    let b : Bodies g.row.M-Command.Denot g.row.M-Line.Denot = bodies g.M.Hosted.blank g.M.Hosted.opened g.M.Hosted.shut g.M.Hosted.heard g.M.Hosted.claim g.M.Hosted.source in
    let t : Together g.row.M-Command.Denot = record { live = c.live.result; attempts = c.args.state.now.standing.attempts; entries = c.new.result; answers = c.new-2.result } in
    let r = c.into_iter-input-iterator in (
      tt,
      tt,
      r.result.rest.ok.0,
      sets_out b c.args.next c.args.id c.args.state.now c.args.inputs.items (into_iter_items r.result) t
          r.ensures.into_iter_gives.0 c.requires.leads c.requires.sound c.requires.counts c.requires.appends c.requires.few
          (omega (arith, c.len-keep.ensures.limit)) c.live.ensures refl c.new.ensures.items c.new-2.ensures.items,
    )

pub to_append-added-requires-clause-counts : goal.to_append-added-requires-clause-counts
to_append-added-requires-clause-counts g c =
    let b : Bodies g.row.M-Command.Denot g.row.M-Line.Denot = bodies g.M.Hosted.blank g.M.Hosted.opened g.M.Hosted.shut g.M.Hosted.heard g.M.Hosted.claim g.M.Hosted.source in
    counts_within b c.args.next c.args.id c.args.state.now c.args.inputs.items _ c.loop-input.together c.loop-input.invariant.3 c.led-standing.result c.led-standing.ensures

pub to_append-added-requires-clause-appends : goal.to_append-added-requires-clause-appends
to_append-added-requires-clause-appends g c =
    let b : Bodies g.row.M-Command.Denot g.row.M-Line.Denot = bodies g.M.Hosted.blank g.M.Hosted.opened g.M.Hosted.shut g.M.Hosted.heard g.M.Hosted.claim g.M.Hosted.source in
    (subst (λ (l : List (Input (Message g.row.M-Command.Denot) g.row.M-Command.Denot g.row.M-Line.Denot)). UnderWay b c.args.next c.args.id c.args.state.now c.args.inputs.items l c.loop-input.together) c.in-Some.ensures.steps.0
    c.loop-input.invariant.3).appends.0

pub loop-input-preserved : goal.loop-input-preserved
loop-input-preserved g c =
    let b : Bodies g.row.M-Command.Denot g.row.M-Line.Denot = bodies g.M.Hosted.blank g.M.Hosted.opened g.M.Hosted.shut g.M.Hosted.heard g.M.Hosted.claim g.M.Hosted.source in (
      tt,
      tt,
      c.next.new.self.rest.ok.0,
      goes_on b c.args.next c.args.id c.args.state.now c.args.inputs.items _ (into_iter_items c.next.new.self) c.in-Some.input (addition_plan c.to_append-added.result)
          c.loop-input.together c.take_in.new.together c.loop-input.invariant.3 c.in-Some.ensures.steps.0
          (λ sent. said b c.args.next c.args.id c.args.state.now c.args.inputs.items c.in-Some.input c.to_append-added.result c.loop-input.together c.led-standing.result c.led-standing.ensures (c.to_append-added.ensures (size_of c.args.state.now)) sent)
          c.in_ok-take_in.ensures,
    )

pub returns-clause-planned : goal.returns-clause-planned
returns-clause-planned g c =
    let b : Bodies g.row.M-Command.Denot g.row.M-Line.Denot = bodies g.M.Hosted.blank g.M.Hosted.opened g.M.Hosted.shut g.M.Hosted.heard g.M.Hosted.claim g.M.Hosted.source in
    let step : Step g.row.M-Command.Denot = record { standing = c.led.result; keep = c.len-keep.result; entries = c.loop-input.together.entries; messages = c.new-3.result } in
    let none = none_left (into_iter_items c.loop-input.input-iterator) _ c.loop-input.invariant.2 c.in-None.ensures.steps.0 in
    are_planned b c.args.next c.args.id c.args.state.now c.args.inputs.items (into_iter_items c.loop-input.input-iterator) c.loop-input.together step c.loop-input.invariant.3 none
    (c.led.ensures, c.len-keep.ensures.value, refl, c.new-3.ensures.items)

pub returns-clause-may : goal.returns-clause-may
returns-clause-may g c =
    let b : Bodies g.row.M-Command.Denot g.row.M-Line.Denot = bodies g.M.Hosted.blank g.M.Hosted.opened g.M.Hosted.shut g.M.Hosted.heard g.M.Hosted.claim g.M.Hosted.source in
    let step : Step g.row.M-Command.Denot = record { standing = c.led.result; keep = c.len-keep.result; entries = c.loop-input.together.entries; messages = c.new-3.result } in
    together_may_stand b c.args.next c.args.id c.args.state.now c.args.inputs.items (into_iter_items c.loop-input.input-iterator) c.loop-input.together step c.requires.sound c.loop-input.invariant.3
    (c.led.ensures, c.len-keep.ensures.value, refl, c.new-3.ensures.items)
