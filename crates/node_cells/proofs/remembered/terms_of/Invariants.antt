use Rattle.std.proofs.Common.{◌≡◌, take}
use Rattle.node_cells.specs.Sending.{terms_of}
use Rattle.node_cells.proofs.remembered.terms_of.Given as goal

abbrev pub invariant-loop-before : goal.invariant-loop-before
invariant-loop-before g l = l.terms.items ≡ terms_of (take l.before l.log)
