use Rattle.std.proofs.Common.{◌≡◌, ◌++◌, length}
use Rattle.chat_log.specs.Controls.{printed_behind}
use Rattle.chat_log.proofs.printing.push_printed.Given as goal

abbrev pub invariant-loop-rest : goal.invariant-loop-rest
invariant-loop-rest l =
    l.out.items ++ printed_behind l.to_come l.rest ≡ l.fn.out.items ++ printed_behind 0 l.bytes

abbrev pub decreases-loop-rest : goal.decreases-loop-rest
decreases-loop-rest l = length l.rest
