use Rattle.std.proofs.Common.{sym}
use Rattle.irc_line.proofs.Folding.{lengths}
use Rattle.irc_line.proofs.fold.is_same_name.Goals as goal

pub returns-then-a-b : goal.returns-then-a-b
returns-then-a-b c = sym (lengths c.args.a.now c.args.b.now c.if-a-b.true)
