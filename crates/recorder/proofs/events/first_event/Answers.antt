use Rattle.std.proofs.Common.{rules, ◌≡◌, Some, None}
use Rattle.std.proofs.lemmas.Grind.{common_steps}
use Rattle.recorder.specs.Splits.{split_at}
use Rattle.recorder.proofs.Lines.{first_line, no_line, other_line}
use Rattle.recorder.proofs.events.first_event.Goals as goal

pub returns-in-Some-2 : goal.returns-in-Some-2
returns-in-Some-2 g c =
    let w = g.B.Wire in
    let s : split_at 10 c.args.text.now ≡ Some (c.in-Some.line.now, c.in-Some.behind.now) = search (rules, common_steps) in
    let read = rw c.in-Some-2.is at c.in_ok-event-in-Some.ensures in
    (read.0, first_line w.spelled w.fits c.args.text.now _ _ c.in-Some-2.event s read.1)

pub returns-in-None-2 : goal.returns-in-None-2
returns-in-None-2 g c =
    let s : split_at 10 c.args.text.now ≡ Some (c.in-Some.line.now, c.in-Some.behind.now) = search (rules, common_steps) in
    other_line g.B.Wire.spelled g.B.Wire.fits c.args.text.now _ _ s (rw c.in-None-2.is at c.in_ok-event-in-Some.ensures)

pub returns-in-None : goal.returns-in-None
returns-in-None g c =
    let s : split_at 10 c.args.text.now ≡ None = search (rules, common_steps) in
    no_line g.B.Wire.spelled g.B.Wire.fits c.args.text.now s
