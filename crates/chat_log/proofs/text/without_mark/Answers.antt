use Rattle.std.proofs.Common.{arith, sym}
use Rattle.chat_log.proofs.Ends.{mark_dropped, mark_absent}
use Rattle.chat_log.proofs.text.without_mark.Goals as goal

pub returns-then-last-eq1 : goal.returns-then-last-eq1
returns-then-last-eq1 c = sym (mark_dropped c.args.text.now (omega arith) c.if-last-eq1.true)

pub returns-else-last-eq1 : goal.returns-else-last-eq1
returns-else-last-eq1 c = sym (mark_absent c.args.text.now (λ _. c.if-last-eq1.false))
