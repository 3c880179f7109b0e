use Rattle.std.proofs.Common.{arith}
use Rattle.records.proofs.WritableTurns.{all_at_end}
use Rattle.records.proofs.writable.turns_are_writable.Goals as goal

pub returns : goal.returns
returns g c =
    let end = c.loop-turn-test.false in
    all_at_end g.M.Command.Wire.spelled g.M.Command.Wire.fits c.loop-turn.turn-index c.args.turns.now (omega (arith, end)) c.loop-turn.invariant
