use Rattle.std.proofs.Common.{drop}
use Rattle.records.proofs.WritableTurns.{AreWritableEach}
use Rattle.records.proofs.writable.turns_are_writable.Given as goal

-- if what is left is writable, all is
abbrev pub invariant-loop-turn : goal.invariant-loop-turn
invariant-loop-turn g l =
    AreWritableEach g.M.Command.Wire.spelled g.M.Command.Wire.fits (drop l.turn-index l.turns)
    → AreWritableEach g.M.Command.Wire.spelled g.M.Command.Wire.fits l.turns
