use Rattle.std.proofs.Common.{sym}
use Rattle.irc_line.proofs.Judging.{judged_line}
use Rattle.irc_line.proofs.line.Line.from_spelling.Goals as goal

pub copied-requires-clause-line : goal.copied-requires-clause-line
copied-requires-clause-line c = judged_line c.args.bytes.now c.in-Ok.draft (sym c.in-Ok.ensures)
