use Rattle.std.proofs.Common.{◌≡◌, ◌++◌, drop}
use Rattle.driver.proofs.outgoing.push_all.Given as goal

-- the lines so far, and those that are left, are all
abbrev pub invariant-loop-line : goal.invariant-loop-line
invariant-loop-line l = l.out.items ++ drop l.line-index l.fn.lines ≡ l.fn.out.items ++ l.fn.lines
