use Rattle.std.proofs.Common.{◌≡◌, drop}
use Rattle.node_threads.specs.Rounds.{with_refusals}
use Rattle.node_threads.proofs.worker_loop.round.Round.fail_each.Given as goal

abbrev pub invariant-loop-answer : goal.invariant-loop-answer
invariant-loop-answer g l =
    with_refusals (drop l.answer-index l.answers) l.self ≡ with_refusals l.answers l.fn.self
