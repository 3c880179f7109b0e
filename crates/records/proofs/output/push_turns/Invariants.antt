use Rattle.std.proofs.Common.{◌≡◌, ◌++◌, suc, drop}
use Rattle.records.proofs.TurnSteps.{turns_lines}
use Rattle.records.proofs.output.push_turns.Given as goal

abbrev pub invariant-loop-place : goal.invariant-loop-place
invariant-loop-place g l =
    l.out.items ++ turns_lines g.E.Words.words g.P.Spelled.spelled (suc l.place) (drop l.place l.turns) ≡ l.initial.out.items ++ turns_lines g.E.Words.words g.P.Spelled.spelled 1 l.turns
