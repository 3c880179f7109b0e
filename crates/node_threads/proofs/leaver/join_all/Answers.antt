use Rattle.std.proofs.Common.{sym, subst}
use Rattle.std.specs.Vec.Iter.{into_iter_items}
use Rattle.node_threads.proofs.Crew.{AreJoining, all_joining, none_joining, none_left, one_joining}
use Rattle.node_threads.proofs.leaver.join_all.Goals as goal

pub loop-thread-init : goal.loop-thread-init
loop-thread-init g c =
    let r = c.into_iter-thread-iterator in (
      tt,
      tt,
      r.result.rest.ok.0,
      subst (λ l. AreJoining g.H.Leaver.joins g.H.Leaver.can_join c.args.threads.items c.args.left.now c.args.left.now l) (sym r.ensures.into_iter_gives.0)
          (none_joining g.H.Leaver.joins g.H.Leaver.can_join c.args.threads.items c.args.left.now c.requires),
    )

pub join_into-requires : goal.join_into-requires
join_into-requires g c =
    (subst (λ l. AreJoining g.H.Leaver.joins g.H.Leaver.can_join c.args.threads.items c.args.left.now c.loop-thread.left l) c.in-Some.ensures.steps.0
    c.loop-thread.invariant.3).may.0

pub loop-thread-preserved : goal.loop-thread-preserved
loop-thread-preserved g c = (
  tt,
  tt,
  c.next.new.self.rest.ok.0,
  one_joining g.H.Leaver.joins g.H.Leaver.can_join c.args.threads.items c.args.left.now c.loop-thread.left c.join_into.new.left
      (into_iter_items c.loop-thread.thread-iterator) (into_iter_items c.next.new.self) c.in-Some.thread
      c.loop-thread.invariant.3 c.in-Some.ensures.steps.0 c.join_into.ensures,
)

pub returns : goal.returns
returns g c =
    let none = none_left (into_iter_items c.loop-thread.thread-iterator) _ c.loop-thread.invariant.2 c.in-None.ensures.steps.0 in
    all_joining g.H.Leaver.joins g.H.Leaver.can_join c.args.threads.items c.args.left.now c.loop-thread.left _ c.loop-thread.invariant.3 none
