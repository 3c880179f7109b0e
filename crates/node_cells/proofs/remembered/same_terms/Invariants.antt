use Rattle.std.proofs.Common.{◌≡◌, drop}
use Rattle.node_cells.specs.Remembering.{same_terms}
use Rattle.node_cells.proofs.remembered.same_terms.Given as goal

abbrev pub invariant-loop-before : goal.invariant-loop-before
invariant-loop-before g l = same_terms (drop l.before l.terms) (drop l.before l.log) ≡ same_terms l.terms l.log
