use Rattle.std.proofs.Common.{rules, ◌≡◌, ◌∷◌, ◌++◌, [], ◌∙◌}
use Rattle.std.specs.Arc.{arc_value}
use Rattle.std.specs.Vec.Iter.{into_iter_items}
use Rattle.raft_node.specs.Parts.{Keeper, keeper}
use Rattle.node_threads.proofs.Crew.{none_left}
use Rattle.node_threads.proofs.Opened.{all_opened, next_opening, no_start, none_opening}
use Rattle.node_threads.proofs.cluster.opening.workers.Given as given
use Rattle.node_threads.proofs.cluster.opening.workers.Goals as goal

abbrev kept : (g : given.Over) → Keeper g.row.S.Denot g.row.M-Command.Denot
kept g = keeper g.S.Stable.saved g.S.Stable.may_stand g.S.Stable.condition

pub loop-pass-init : goal.loop-pass-init
loop-pass-init g c =
    let passes = c.into_iter-pass-iterator in
    let parts = c.into_iter-parts in (
      tt,
      tt,
      passes.result.rest.ok.0,
      parts.result.rest.ok.0,
      none_opening (kept g) (arc_value c.args.ether.now) c.args.recording c.args.parts.items _ c.new-workers.result.items c.args.passes.items (into_iter_items passes.result)
          (into_iter_items parts.result) c.requires.passes c.requires.parts c.requires.size c.new-workers.ensures.items passes.ensures.into_iter_gives.0
          parts.ensures.rest,
    )

pub returns-in-Err-begin_worker-clause-fault : goal.returns-in-Err-begin_worker-clause-fault
returns-in-Err-begin_worker-clause-fault g c =
    let l = c.loop-pass in
    no_start (kept g) (arc_value c.args.ether.now) c.args.recording c.args.parts.items _ l.workers.items (into_iter_items l.pass-iterator) (into_iter_items c.next.new.self)
    (into_iter_items l.parts) c.in-Some.pass l.invariant.4 c.in-Some.ensures.steps.0 (into_iter_items c.next-in-loop-pass.new.self) c.in-Some-next.part
    c.in-Some-next.ensures.items c.in-Err-begin_worker.fault (c.requires.parts ∙ c.requires.size) c.in-Err-begin_worker.ensures.fault

pub loop-pass-preserved : goal.loop-pass-preserved
loop-pass-preserved g c =
    let l = c.loop-pass in
    let more : c.push.new.self.items ≡ l.workers.items ++ c.in-Ok-begin_worker.worker ∷ [] = search rules in (
      tt,
      tt,
      c.next.new.self.rest.ok.0,
      c.next-in-loop-pass.new.self.rest.ok.0,
      next_opening (kept g) (arc_value c.args.ether.now) c.args.recording c.args.parts.items _ l.workers.items (into_iter_items l.pass-iterator) (into_iter_items c.next.new.self)
          (into_iter_items l.parts) c.in-Some.pass l.invariant.4 c.in-Some.ensures.steps.0 (into_iter_items c.next-in-loop-pass.new.self) c.in-Some-next.part
          c.in-Some-next.ensures.items c.in-Ok-begin_worker.worker c.push.new.self.items c.in-Ok-begin_worker.ensures.begun more,
    )

pub returns-clause-begun : goal.returns-clause-begun
returns-clause-begun g c =
    let none = none_left (into_iter_items c.loop-pass.pass-iterator) _ c.loop-pass.invariant.2 c.in-None.ensures.steps.0 in
    (all_opened (kept g) (arc_value c.args.ether.now) c.args.recording c.args.parts.items _ c.loop-pass.workers.items _ _ c.loop-pass.invariant.4 none).0

pub returns-clause-all : goal.returns-clause-all
returns-clause-all g c =
    let none = none_left (into_iter_items c.loop-pass.pass-iterator) _ c.loop-pass.invariant.2 c.in-None.ensures.steps.0 in
    (all_opened (kept g) (arc_value c.args.ether.now) c.args.recording c.args.parts.items _ c.loop-pass.workers.items _ _ c.loop-pass.invariant.4 none).1
