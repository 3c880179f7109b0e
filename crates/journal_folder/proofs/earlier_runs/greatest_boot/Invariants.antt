use Rattle.std.proofs.Common.{◌≡◌, ◌≤◌, ◌^◌, max, drop}
use Rattle.journal_folder.specs.Runs.{greatest_boot}
use Rattle.journal_folder.proofs.earlier_runs.greatest_boot.Given as goal

-- the greatest boot so far, and that of the rest
abbrev pub invariant-loop-before : goal.invariant-loop-before
invariant-loop-before l =
    (max l.greatest (greatest_boot l.node (drop l.before l.log)) ≡ greatest_boot l.node l.log) × (l.greatest ≤ 2 ^ 60)
