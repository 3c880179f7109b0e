use Rattle.std.specs.Prelude.{◌≡◌, ◌≤◌, length, vec_capacity}
use Rattle.std.specs.Vec.Iter.{into_iter_items, into_iter_len}
use Rattle.node_threads.specs.Places.{place_home}
use Rattle.node_threads.proofs.Crew.{HaveBegun}
use Rattle.node_threads.proofs.cluster.Cluster.begin.Given as goal

abbrev pub invariant-loop-worker : goal.invariant-loop-worker
invariant-loop-worker g l =
    (goal.iterator-loop-worker g).can_next l.worker-iterator
    × (goal.iterator-loop-worker g).is_finite l.worker-iterator
    × (l.fn.closing.ether.size ≤ vec_capacity l.threads)
    × (into_iter_len l.worker-iterator ≡ length (into_iter_items l.worker-iterator))
    × HaveBegun l.fn.closing.ether l.fn.closing.recording place_home (λ w. w.place) (λ t. t.promise.place.value) l.fn.workers.items l.threads.items (into_iter_items l.worker-iterator)
