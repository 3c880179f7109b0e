use Rattle.std.proofs.Common.{rules, ◌≡◌, Some, None}
use Rattle.std.proofs.lemmas.Grind.{common_steps}
use Rattle.recorder.specs.Readings.{FitsDigits, digits_of}
use Rattle.recorder.specs.Splits.{split_at}
use Rattle.records.proofs.LineFronts.{line_read, no_end, no_line, setup_lacks}
use Rattle.records.proofs.items.first_setup.Goals as goal

pub returns-in-Some-2 : goal.returns-in-Some-2
returns-in-Some-2 g c =
    let w = g.S.Wire in
    let s : split_at 10 c.args.text.now ≡ Some (c.in-Some.digits.now, c.in-Some.behind.now) = search (rules, common_steps) in
    let read = rw c.in-Some-2.is at c.in_ok-setup-in-Some.ensures in
    (read.0, line_read (digits_of w.spelled) (FitsDigits w.fits w.spelled) (setup_lacks w.spelled w.fits) c.args.text.now _ _ c.in-Some-2.setup s read.1)

pub returns-in-None-2 : goal.returns-in-None-2
returns-in-None-2 g c =
    let w = g.S.Wire in
    let s : split_at 10 c.args.text.now ≡ Some (c.in-Some.digits.now, c.in-Some.behind.now) = search (rules, common_steps) in
    no_line (digits_of w.spelled) (FitsDigits w.fits w.spelled) (setup_lacks w.spelled w.fits) c.args.text.now _ _ s (rw c.in-None-2.is at c.in_ok-setup-in-Some.ensures)

pub returns-in-None : goal.returns-in-None
returns-in-None g c =
    let w = g.S.Wire in
    let s : split_at 10 c.args.text.now ≡ None = search (rules, common_steps) in
    no_end (digits_of w.spelled) (FitsDigits w.fits w.spelled) (setup_lacks w.spelled w.fits) c.args.text.now s
