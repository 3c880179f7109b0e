use Rattle.std.proofs.Common.{◌≡◌, length}
use Rattle.std.specs.Vec.Iter.{into_iter_items, into_iter_len}
use Rattle.raft_node.specs.Inputs.{bodies}
use Rattle.raft_node.proofs.Adding.{UnderWay}
use Rattle.raft_node.proofs.together.plan_together.Given as goal

-- what is left gives the result of all, after what was planned so far
abbrev pub invariant-loop-input : goal.invariant-loop-input
invariant-loop-input g l =
    (goal.iterator-loop-input g).can_next l.input-iterator
    × (goal.iterator-loop-input g).is_finite l.input-iterator
    × (into_iter_len l.input-iterator ≡ length (into_iter_items l.input-iterator))
    × UnderWay (bodies g.M.Hosted.blank g.M.Hosted.opened g.M.Hosted.shut g.M.Hosted.heard g.M.Hosted.claim g.M.Hosted.source) l.fn.next l.fn.id l.fn.state l.fn.inputs.items
    (into_iter_items l.input-iterator) l.together
