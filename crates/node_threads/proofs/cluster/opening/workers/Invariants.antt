use Rattle.std.specs.Prelude.{◌≡◌, length}
use Rattle.std.specs.Arc.{arc_value}
use Rattle.std.specs.Vec.Iter.{into_iter_items, into_iter_len}
use Rattle.raft_node.specs.Parts.{keeper}
use Rattle.node_threads.proofs.Opened.{AreOpening}
use Rattle.node_threads.proofs.cluster.opening.workers.Given as goal

abbrev pub invariant-loop-pass : goal.invariant-loop-pass
invariant-loop-pass g l =
    (goal.iterator-loop-pass g).can_next l.pass-iterator
    × (goal.iterator-loop-pass g).is_finite l.pass-iterator
    × (into_iter_len l.pass-iterator ≡ length (into_iter_items l.pass-iterator))
    × (into_iter_len l.parts ≡ length (into_iter_items l.parts))
    × AreOpening (keeper g.S.Stable.saved g.S.Stable.may_stand g.S.Stable.condition) (arc_value l.fn.ether) l.fn.recording l.fn.parts.items (λ w. w.place) l.workers.items
    (into_iter_items l.pass-iterator) (into_iter_items l.parts)
