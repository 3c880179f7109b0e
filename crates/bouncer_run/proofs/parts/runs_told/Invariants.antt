use Rattle.std.proofs.Common.{◌≡◌, ◌+◌, ◌<◌, ℕ, length, map, get_or}
use Rattle.std.specs.Prelude.{option_map}
use Rattle.bouncer_run.specs.Opened.{run_of_group}
use Rattle.bouncer_run.proofs.parts.runs_told.Given as goal

-- the run of each node so far
abbrev pub invariant-loop-index : goal.invariant-loop-index
invariant-loop-index l = record {
  count : length l.runs.items ≡ l.index;
  runs : (k : ℕ) → k < l.index → get_or l.runs.items k 0 ≡ run_of_group (map (option_map (λ j. j.saved)) l.opened) (k + 1);
}
