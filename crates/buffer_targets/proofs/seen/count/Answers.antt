use Rattle.std.proofs.Common.{rules, ◌≡◌, ◌+◌, ap, ◌∙◌}
use Rattle.std.specs.Prelude.{slice_get}
use Rattle.buffer_targets.proofs.Counts.{count_step, count_all}
use Rattle.buffer_targets.proofs.seen.count.Goals as goal

pub loop-count-preserved : goal.loop-count-preserved
loop-count-preserved c =
    let flag : c.flag_at.result ≡ slice_get c.args.here.now c.loop-count.count-index = c.flag_at.ensures ∙ ap (slice_get c.args.here.now) c.loop-count.invariant.1 in
    (count_step c.args.all c.args.gone c.args.here.now c.loop-count.counts c.args.counts.now c.loop-count.count-index 0 c.count_of.result c.loop-count.invariant.0 c.loop-count-test.true (rw flag at c.count_of.ensures), ap (λ n. n + 1) c.loop-count.invariant.1)

pub returns : goal.returns
returns c =
    c.loop-count.invariant.0 ∙ count_all c.args.all c.args.gone c.args.here.now c.args.counts.now c.loop-count.count-index (search rules)
