use Rattle.std.proofs.Common.{sym, arith}
use Rattle.std.proofs.lemmas.List.{take_all}
use Rattle.irc_line.specs.Limits.{content_limit}
use Rattle.recorder.proofs.effects.printed.Goals as goal

pub returns-then-spelling-lt-CONTENT_LIMIT : goal.returns-then-spelling-lt-CONTENT_LIMIT
returns-then-spelling-lt-CONTENT_LIMIT c = sym (take_all content_limit c.args.spelling.now (omega arith))
