use Rattle.std.proofs.Common.{◌≡◌, ◌+◌, ◌≤◌, length}
use Rattle.records.proofs.Comparing.{by_bytes}
use Rattle.records.proofs.verdict.verdict_of.Given as goal

abbrev pub invariant-loop-left : goal.invariant-loop-left
invariant-loop-left l = record {
  so_far : by_bytes l.line l.left l.other ≡ by_bytes 1 l.fn.recorded l.fn.run;
  few : l.line + length l.left ≤ 1 + length l.fn.recorded;
}

abbrev pub decreases-loop-left : goal.decreases-loop-left
decreases-loop-left l = length l.left
