use Rattle.std.proofs.Common.{◌≡◌, ◌<◌, length, arith}
use Rattle.std.proofs.lemmas.Bool.Decides.{nat_tests}
use Rattle.records.proofs.Comparing.{both_end, one_ends}
use Rattle.records.proofs.verdict.verdict_of.Goals as goal

pub returns-then-is_empty : goal.returns-then-is_empty
returns-then-is_empty c =
    let none : length c.loop-left.other.now ≡ 0 = grind (arith, nat_tests) in
    both_end c.loop-left.line c.loop-left.left.now c.loop-left.other.now _ _ c.in_default.len_below none c.loop-left.invariant.so_far

pub returns-else-is_empty : goal.returns-else-is_empty
returns-else-is_empty c =
    let some : 0 < length c.loop-left.other.now = grind (arith, nat_tests) in
    one_ends c.loop-left.line c.loop-left.left.now c.loop-left.other.now _ _ c.in_default.len_below some c.loop-left.invariant.so_far
