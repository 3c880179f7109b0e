use Rattle.std.proofs.Common.{rules, ◌≡◌, true, false, Some, None, sym}
use Rattle.std.specs.Prelude.{codes}
use Rattle.std.proofs.lemmas.Grind.{common_steps}
use Rattle.irc_line.specs.Names.{same_bytes}
use Rattle.irc_line.proofs.SameBytes.{same_bytes-eq}
use Rattle.recorder.specs.Splits.{split_at}
use Rattle.records.specs.RecordReading.{FitsIn, ItemFits, item_word}
use Rattle.records.proofs.ItemSteps.{item_lacks, no_item}
use Rattle.records.proofs.LineFronts.{line_read, no_end, no_line}
use Rattle.records.proofs.items.first_item.Goals as goal

pub returns-then-is_same : goal.returns-then-is_same
returns-then-is_same g c =
    let w = g.B.Wire in
    let fits = FitsIn w.fits g.B.Dated.brings_name c.args.version in
    let s : split_at 10 c.args.text.now ≡ Some (c.in-Some.line.now, c.in-Some.behind.now) = search (rules, common_steps) in
    let same : same_bytes c.in-Some.line.now (codes "outputs") ≡ true = search (rules, common_steps) in
    (tt, line_read (item_word w.spelled fits) (ItemFits w.spelled fits) (item_lacks w.spelled fits) c.args.text.now _ _ None s (sym (same_bytes-eq c.in-Some.line.now (codes "outputs") same)))

pub returns-in-Some-2 : goal.returns-in-Some-2
returns-in-Some-2 g c =
    let w = g.B.Wire in
    let fits = FitsIn w.fits g.B.Dated.brings_name c.args.version in
    let s : split_at 10 c.args.text.now ≡ Some (c.in-Some.line.now, c.in-Some.behind.now) = search (rules, common_steps) in
    let read = rw c.in-Some-2.is at c.in_ok-event-in-Some.ensures in
    (read.0, line_read (item_word w.spelled fits) (ItemFits w.spelled fits) (item_lacks w.spelled fits) c.args.text.now _ _ (Some c.in-Some-2.event) s read.1)

pub returns-in-None-2 : goal.returns-in-None-2
returns-in-None-2 g c =
    let w = g.B.Wire in
    let fits = FitsIn w.fits g.B.Dated.brings_name c.args.version in
    let s : split_at 10 c.args.text.now ≡ Some (c.in-Some.line.now, c.in-Some.behind.now) = search (rules, common_steps) in
    let other : same_bytes c.in-Some.line.now (codes "outputs") ≡ false = search (rules, common_steps) in
    no_line (item_word w.spelled fits) (ItemFits w.spelled fits) (item_lacks w.spelled fits) c.args.text.now _ _ s (no_item w.spelled fits c.in-Some.line.now other (rw c.in-None-2.is at c.in_ok-event-in-Some.ensures))

pub returns-in-None : goal.returns-in-None
returns-in-None g c =
    let w = g.B.Wire in
    let fits = FitsIn w.fits g.B.Dated.brings_name c.args.version in
    let s : split_at 10 c.args.text.now ≡ None = search (rules, common_steps) in
    no_end (item_word w.spelled fits) (ItemFits w.spelled fits) (item_lacks w.spelled fits) c.args.text.now s
