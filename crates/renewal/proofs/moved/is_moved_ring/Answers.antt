use Rattle.std.proofs.Common.{◌∙◌, drop, sym}
use Rattle.renewal.proofs.Merging.{behind_some}
use Rattle.renewal.proofs.Tests.{from_true, more_same}
use Rattle.renewal.proofs.moved.is_moved_ring.Goals as goal

pub loop-place-preserved : goal.loop-place-preserved
loop-place-preserved c =
    more_same c.args.new.now.lines (drop c.saturating_sub-dropped.result c.args.old.now.lines) c.loop-place.place c.loop-place.invariant
    (sym c.line-in-loop-place.ensures ∙ (c.is_same_kept.ensures (from_true c.is_same_kept.result c.if-not-is_same_kept.false)
    ∙ (c.line.ensures ∙ sym (behind_some c.saturating_sub-dropped.result c.args.old.now.lines c.loop-place.place))))
