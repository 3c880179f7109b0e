use Rattle.std.proofs.Common.{rules, ◌≡◌, ◌≤◌, ◌<◌, [], length, arith}
use Rattle.std.specs.Prelude.{vec_capacity}
use Rattle.std.specs.Vec.Iter.{into_iter_items}
use Rattle.node_threads.specs.Places.{place_home}
use Rattle.node_threads.proofs.Crew.{all_begun, few_begun, none_begun, none_left, next_begun}
use Rattle.node_threads.proofs.cluster.Cluster.begin.Goals as goal

pub loop-worker-init : goal.loop-worker-init
loop-worker-init g c =
    let r = c.into_iter-worker-iterator in
    let none : c.in_ok-threads.threads.items ≡ [] = c.in_ok-threads.ensures.items in
    let a = c.in_ok-threads.ensures.capacity in
    let b = c.len.ensures in
    let d = c.args.workers.ok.0 in
    let e = c.requires.workers in
    let room : c.args.closing.ether.size ≤ vec_capacity c.in_ok-threads.threads = omega (arith, a, b, d, e) in (
      tt,
      tt,
      room,
      r.result.rest.ok.0,
      none_begun c.args.closing.ether c.args.closing.recording place_home _ _ c.args.workers.items c.in_ok-threads.threads.items (into_iter_items r.result) c.requires.homes c.requires.workers none
          r.ensures.into_iter_gives.0,
    )

pub push_reserved-requires : goal.push_reserved-requires
push_reserved-requires g c =
    let few : length c.loop-worker.threads.items < c.args.closing.ether.size =
    few_begun c.args.closing.ether c.args.closing.recording place_home _ _ c.args.workers.items c.loop-worker.threads.items (into_iter_items c.loop-worker.worker-iterator)
    (into_iter_items c.next.new.self) c.in-Some.worker c.loop-worker.invariant.4 c.in-Some.ensures.steps.0 in
    let room = c.loop-worker.invariant.2 in
    let long = c.loop-worker.threads.ok.0 in
    omega (arith, few, room, long)

pub loop-worker-preserved : goal.loop-worker-preserved
loop-worker-preserved g c =
    let room : c.args.closing.ether.size ≤ vec_capacity c.push_reserved.new.self = search rules in (
      tt,
      tt,
      room,
      c.next.new.self.rest.ok.0,
      next_begun c.args.closing.ether c.args.closing.recording place_home _ _ c.args.workers.items c.loop-worker.threads.items c.push_reserved.new.self.items
          (into_iter_items c.loop-worker.worker-iterator) (into_iter_items c.next.new.self) c.in-Some.worker c.in-Some-spawn_worker.thread
          c.loop-worker.invariant.4 c.in-Some.ensures.steps.0 c.in-Some-spawn_worker.ensures c.push_reserved.ensures.items,
    )

pub invariant_of-result : goal.invariant_of-result
invariant_of-result g c =
    let none = none_left (into_iter_items c.loop-worker.worker-iterator) _ c.loop-worker.invariant.3 c.in-None.ensures.steps.0 in
    let all = all_begun c.args.closing.ether c.args.closing.recording place_home _ _ c.args.workers.items c.loop-worker.threads.items _ c.loop-worker.invariant.4 none in
    (c.requires.inboxes, all.1, c.requires.closing, all.0)

pub returns-clause-places : goal.returns-clause-places
returns-clause-places g c =
    let none = none_left (into_iter_items c.loop-worker.worker-iterator) _ c.loop-worker.invariant.3 c.in-None.ensures.steps.0 in
    (all_begun c.args.closing.ether c.args.closing.recording place_home _ _ c.args.workers.items c.loop-worker.threads.items _ c.loop-worker.invariant.4 none).2
