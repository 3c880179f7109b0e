use Rattle.std.proofs.Common.{arith, sym}
use Rattle.irc_line.proofs.Splitting.{return_dropped, return_absent}
use Rattle.irc_line.proofs.splitter.content_of.Goals as goal

pub returns-then-last-eq13 : goal.returns-then-last-eq13
returns-then-last-eq13 c = sym (return_dropped c.args.ended.now (omega arith) c.if-last-eq13.true)

pub returns-else-last-eq13 : goal.returns-else-last-eq13
returns-else-last-eq13 c = sym (return_absent c.args.ended.now (λ _. c.if-last-eq13.false))
