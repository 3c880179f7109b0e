use Rattle.std.specs.Prelude.{◌≡◌, length}
use Rattle.node_threads.proofs.cluster.opening.make_inboxes.Given as goal

abbrev pub invariant-loop : goal.invariant-loop
invariant-loop g l = (length l.inboxes.items ≡ l.counter) × (length l.outboxes.items ≡ l.counter)
