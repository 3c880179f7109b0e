use Rattle.std.proofs.Common.{◌≡◌, ◌+◌, ◌++◌, drop}
use Rattle.raft_log.specs.Runs.{runs_behind, terms}
use Rattle.raft_log.proofs.run.begun_behind.Given as goal

abbrev pub invariant-loop-entry : goal.invariant-loop-entry
invariant-loop-entry g l = record {
  index_is : l.index ≡ l.before + l.entry-index;
  rest : l.runs.items ++ runs_behind l.last l.index (terms (drop l.entry-index l.entries)) ≡ runs_behind l.fn.last l.before (terms l.entries);
}
