use Rattle.std.proofs.Common.{◌≡◌, ◌+◌}
use Rattle.led_lists.proofs.Behind.{Follows}
use Rattle.led_lists.proofs.fold.led_behind.Given as goal

abbrev pub invariant-loop-body : goal.invariant-loop-body
invariant-loop-body g l =
    (l.place ≡ l.body-index + 1)
    × Follows g.M.Machine.stands g.M.Claiming.next_claim l.whose.term l.whose.client l.fn.machine l.machine l.first l.leading l.body-index l.bodies
