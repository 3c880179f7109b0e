use Rattle.std.specs.Prelude.{◌≡◌, ◌≤◌, length, vec_capacity}
use Rattle.std.specs.Vec.Iter.{into_iter_items, into_iter_len}
use Rattle.node_threads.proofs.Started.{AreMade}
use Rattle.node_threads.proofs.cluster.starting.all_ready.Given as goal

abbrev pub invariant-loop-part : goal.invariant-loop-part
invariant-loop-part g l =
    (goal.iterator-loop-part g).can_next l.part-iterator
    × (goal.iterator-loop-part g).is_finite l.part-iterator
    × (length l.fn.parts.items ≤ vec_capacity l.all)
    × (into_iter_len l.part-iterator ≡ length (into_iter_items l.part-iterator))
    × AreMade l.fn.parts.items l.all.items (into_iter_items l.part-iterator)
