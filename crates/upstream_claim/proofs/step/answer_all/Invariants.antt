use Rattle.std.proofs.Common.{◌≡◌, ◌++◌, take}
use Rattle.std.specs.Vec.Iter.{into_iter_items}
use Rattle.upstream_claim.specs.Numbered.{answered, lines_of}
use Rattle.upstream_claim.specs.States.{space}
use Rattle.upstream_claim.proofs.step.answer_all.Given as goal

abbrev pub invariant-loop-effect : goal.invariant-loop-effect
invariant-loop-effect g l = record {
  answers : l.answers.items ++ answered g.M.HasSession.sends (space l.unclaimed.lines.items) (into_iter_items l.effect-iterator) ≡ answered g.M.HasSession.sends (space l.fn.unclaimed.lines.items) l.fn.effects.items;
  lines : l.unclaimed.lines.items ++ take (space l.unclaimed.lines.items) (lines_of g.M.HasSession.sends (into_iter_items l.effect-iterator)) ≡ l.fn.unclaimed.lines.items ++ take (space l.fn.unclaimed.lines.items) (lines_of g.M.HasSession.sends l.fn.effects.items);
  count : l.unclaimed.count ≡ l.fn.unclaimed.count;
}
