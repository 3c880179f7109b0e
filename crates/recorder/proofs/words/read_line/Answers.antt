use Rattle.std.proofs.Common.{rules, ◌≡◌, Some, None}
use Rattle.std.proofs.lemmas.Grind.{common_steps}
use Rattle.irc_line.specs.Reading.{canonical, judged}
use Rattle.recorder.proofs.Spelled.{line_read, no_line}
use Rattle.recorder.proofs.words.read_line.Goals as goal

pub returns-in-Some : goal.returns-in-Some
returns-in-Some c =
    let e : canonical c.args.bytes.now (judged c.args.bytes.now) ≡ Some c.in-Some.line = search (rules, common_steps) in
    line_read c.args.bytes.now c.in-Some.line c.from_line.result e c.from_line.ensures

pub returns-in-None : goal.returns-in-None
returns-in-None c =
    let e : canonical c.args.bytes.now (judged c.args.bytes.now) ≡ None = search (rules, common_steps) in
    no_line c.args.bytes.now e
