use Rattle.std.proofs.Common.{◌≡◌, ◌++◌, suc, drop}
use Rattle.world_lines.specs.OutcomeText.{outcomes_lines}
use Rattle.world_lines.proofs.outcomes.push_outcomes.Given as goal

abbrev pub invariant-loop-place : goal.invariant-loop-place
invariant-loop-place g l =
    l.out.items ++ outcomes_lines g.E.Words.words g.P.Spelled.spelled (suc l.place) (drop l.place l.events) (drop l.place l.outs) ≡ l.initial.out.items ++ outcomes_lines g.E.Words.words g.P.Spelled.spelled 1 l.events l.outs
