use Rattle.std.specs.Prelude.{◌≡◌, length}
use Rattle.std.specs.Vec.Iter.{into_iter_items, into_iter_len}
use Rattle.node_threads.proofs.Crew.{AreJoining}
use Rattle.node_threads.proofs.leaver.join_all.Given as goal

abbrev pub invariant-loop-thread : goal.invariant-loop-thread
invariant-loop-thread g l =
    (goal.iterator-loop-thread g).can_next l.thread-iterator
    × (goal.iterator-loop-thread g).is_finite l.thread-iterator
    × (into_iter_len l.thread-iterator ≡ length (into_iter_items l.thread-iterator))
    × AreJoining g.H.Leaver.joins g.H.Leaver.can_join l.fn.threads.items l.fn.left l.left (into_iter_items l.thread-iterator)
