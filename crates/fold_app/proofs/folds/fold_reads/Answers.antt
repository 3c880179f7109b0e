use Rattle.std.proofs.Common.{[], refl, arith}
use Rattle.std.proofs.KnownBytes.{Consumes-nil}
use Rattle.fold_app.proofs.Carrying.{stands_at_first}
use Rattle.fold_app.proofs.folds.fold_reads.Goals as goal

pub loop-init : goal.loop-init
loop-init g c = (
  omega arith,
  omega (arith, c.in_ok-room.ensures.room),
  omega (arith, c.new-folding.ensures.place),
  λ _. c.requires,
  (
    [],
    refl,
    Consumes-nil _,
    stands_at_first g.M.Machine.stands g.M.Machine.effects c.args.machine.now c.new-folding.result c.new-folding.ensures.fault c.new-folding.ensures.place c.new-folding.ensures.begun c.new-folding.ensures.output,
  ),
)
