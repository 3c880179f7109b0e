use Rattle.std.proofs.Common.{rules, ◌≡◌, ◌≤◌, ◌<◌, [], length, arith}
use Rattle.std.specs.Prelude.{vec_capacity}
use Rattle.std.specs.Vec.Iter.{into_iter_items}
use Rattle.node_threads.proofs.Crew.{none_left}
use Rattle.node_threads.proofs.Started.{all_made, few_made, next_made, none_made}
use Rattle.node_threads.proofs.cluster.starting.all_ready.Goals as goal

pub loop-part-init : goal.loop-part-init
loop-part-init g c =
    let r = c.into_iter-part-iterator in
    let none : c.in_ok-all.all.items ≡ [] = c.in_ok-all.ensures.items in
    let a = c.in_ok-all.ensures.capacity in
    let b = c.len.ensures in
    let d = c.args.parts.ok.0 in
    let room : length c.args.parts.items ≤ vec_capacity c.in_ok-all.all = omega (arith, a, b, d) in
    (tt, tt, room, r.result.rest.ok.0, none_made c.args.parts.items c.in_ok-all.all.items (into_iter_items r.result) none r.ensures.into_iter_gives.0)

pub push_reserved-requires : goal.push_reserved-requires
push_reserved-requires g c =
    let l = c.loop-part in
    let few : length l.all.items < length c.args.parts.items =
    few_made c.args.parts.items l.all.items (into_iter_items l.part-iterator) (into_iter_items c.next.new.self) _ l.invariant.4 c.in-Some.ensures.steps.0 in
    let room = l.invariant.2 in
    let long = l.all.ok.0 in
    omega (arith, few, room, long)

pub loop-part-preserved : goal.loop-part-preserved
loop-part-preserved g c =
    let l = c.loop-part in
    let room : length c.args.parts.items ≤ vec_capacity c.push_reserved.new.self = search rules in (
      tt,
      tt,
      room,
      c.next.new.self.rest.ok.0,
      next_made c.args.parts.items l.all.items c.push_reserved.new.self.items (into_iter_items l.part-iterator) (into_iter_items c.next.new.self) _ l.invariant.4 c.in-Some.ensures.steps.0
          c.push_reserved.ensures.items,
    )

pub returns-clause-all : goal.returns-clause-all
returns-clause-all g c =
    let none = none_left (into_iter_items c.loop-part.part-iterator) _ c.loop-part.invariant.3 c.in-None.ensures.steps.0 in
    all_made c.args.parts.items c.loop-part.all.items (into_iter_items c.loop-part.part-iterator) c.loop-part.invariant.4 none
