use Rattle.std.proofs.Common.{◌≡◌, ◌≤◌, ◌^◌, max, drop}
use Rattle.journal_folder.specs.Runs.{last_run}
use Rattle.journal_folder.proofs.earlier_runs.last_run.Given as goal

-- the last boot so far, and that of the rest
abbrev pub invariant-loop-before : goal.invariant-loop-before
invariant-loop-before l =
    (max l.last (last_run l.node (drop l.before l.log)) ≡ last_run l.node l.log) × (l.last ≤ 2 ^ 60)
