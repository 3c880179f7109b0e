use Rattle.std.proofs.Common.{◌-◌, refl}
use Rattle.buffer_targets.proofs.Edits.{map_step}
use Rattle.buffer_targets.proofs.Indexes.{lowers}
use Rattle.buffer_targets.proofs.index.lower.Goals as goal

pub overflow_sub-place : goal.overflow_sub-place
overflow_sub-place c = lowers c.args.by c.loop-place.places c.args.places.now c.loop-place.place-index 0 c.loop-place.invariant c.loop-place-test.true c.requires

pub loop-place-preserved : goal.loop-place-preserved
loop-place-preserved c =
    map_step (λ i. i - c.args.by) c.loop-place.places c.args.places.now c.loop-place.place-index 0 _ c.loop-place.invariant c.loop-place-test.true refl
