use Rattle.std.proofs.Common.{◌∙◌}
use Rattle.std.proofs.Math.Seq.{take-append-add}
use Rattle.irc_line.specs.Lines.{spelling}
use Rattle.recorder.proofs.effects.push_sent.Goals as goal

pub returns : goal.returns
returns c =
    c.truncate.ensures.items ∙ rw (c.in_ok-write_to.ensures.ok, c.len-start.ensures, c.args.out.now.ok.0) (take-append-add c.args.out.now.items (spelling c.args.line.now) 510)
