use Rattle.std.proofs.Common.{◌≡◌, drop}
use Rattle.node_threads.specs.Forwarding.{forwarded_after}
use Rattle.node_threads.proofs.worker_loop.forwarding.forwarded_after.Given as goal

abbrev pub invariant-loop-node : goal.invariant-loop-node
invariant-loop-node l =
    forwarded_after l.fn.is_request (drop l.node-index l.posted_to) l.forwarded ≡ forwarded_after l.fn.is_request l.posted_to l.fn.forwarded
