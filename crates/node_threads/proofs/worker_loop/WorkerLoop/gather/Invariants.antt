use Rattle.std.proofs.Common.{◌≡◌, drop}
use Rattle.node_threads.specs.Asking.{leader_in, term_in}
use Rattle.node_threads.specs.Forwarding.{forwarded_after}
use Rattle.node_threads.specs.Requests.{Queue, queue_of}
use Rattle.node_threads.specs.Rounds.{woken_by}
use Rattle.node_threads.specs.Waiting.{AreBack, HaveComeBack, account_of}
use Rattle.node_threads.proofs.worker_loop.WorkerLoop.gather.Given as goal

abbrev pub invariant-loop-envelope : goal.invariant-loop-envelope
invariant-loop-envelope g l =
    (l.self.round ≡ record l.fn.self.round { woken = woken_by l.fn.self.round.woken l.fn.output.posted_to.items }) × (l.self.contacts ≡ l.fn.self.contacts) × (l.self.has_untold_beat ≡ l.fn.self.has_untold_beat)
    × (l.self.forwarded ≡ forwarded_after l.fn.is_request l.fn.output.posted_to.items l.fn.self.forwarded) × HaveComeBack (account_of l.fn.self) (account_of l.self)
    × ((new : Queue _) → AreBack (term_in l.cell.parts) (leader_in l.cell.parts) (drop l.envelope-index l.envelope-items) (queue_of l.self.requests) new
    → AreBack (term_in l.cell.parts) (leader_in l.cell.parts) l.fn.output.replaced.items (queue_of l.fn.self.requests) new)
