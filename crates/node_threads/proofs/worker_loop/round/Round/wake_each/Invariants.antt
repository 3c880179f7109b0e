use Rattle.std.proofs.Common.{◌≡◌, drop}
use Rattle.node_threads.specs.Rounds.{woken_by}
use Rattle.node_threads.proofs.worker_loop.round.Round.wake_each.Given as goal

abbrev pub invariant-loop-node : goal.invariant-loop-node
invariant-loop-node g l =
    (woken_by l.self.woken (drop l.node-index l.nodes) ≡ woken_by l.fn.self.woken l.nodes) × (l.self ≡ record l.fn.self { woken = l.self.woken })
