use Rattle.std.proofs.Common.{◌≡◌, ◌+◌, ◌≤◌, drop, length}
use Rattle.raft_log.specs.Logs.{standing}
use Rattle.raft_log.proofs.log.Log.standing.Given as goal

abbrev pub invariant-loop-entry : goal.invariant-loop-entry
invariant-loop-entry g l = record {
  counted : l.index ≡ l.prev + l.entry-index;
  within : l.index ≤ length l.self;
  rest : l.entry-index + standing (drop l.index l.self) (drop l.entry-index l.entries) ≡ standing (drop l.prev l.self) l.entries;
}
