use Rattle.std.proofs.Common.{◌≡◌, ◌++◌, drop}
use Rattle.records.proofs.TurnSteps.{turns_text}
use Rattle.records.proofs.writing.push_events.Given as goal

abbrev pub invariant-loop-turn : goal.invariant-loop-turn
invariant-loop-turn g l =
    l.out.items ++ turns_text g.B.Wire.spelled g.B.Wire.fits (drop l.turn-index l.turns) ≡ l.initial.out.items ++ turns_text g.B.Wire.spelled g.B.Wire.fits l.turns
