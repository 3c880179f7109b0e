use Rattle.std.proofs.Common.{◌≡◌, ◌+◌, ◌<◌, ◌≤◌, length, drop, is_ok, IsTrue}
use Rattle.wire_bytes.specs.Fields.{behind}
use Rattle.raft_log.specs.Entries.{entry_taken}
use Rattle.stable_store.specs.Lists.{many}
use Rattle.stable_store.proofs.Many.{joined}
use Rattle.stable_store.proofs.entries.take_many.Given as goal

abbrev pub invariant-loop-left : goal.invariant-loop-left
invariant-loop-left g l = record {
  same : joined l.entries.items (behind l.end (many l.left (entry_taken g.B.Wire.taken)) l.input) ≡ behind l.place (many l.count (entry_taken g.B.Wire.taken)) l.input;
  within : l.end ≤ length l.input;
  number : length l.entries.items + l.left ≡ l.count;
  few : l.left ≤ l.count;
  none : l.left ≡ l.count → l.end ≡ l.place;
  some : l.left < l.count → IsTrue (is_ok (entry_taken g.B.Wire.taken (drop l.place l.input)));
}

abbrev pub decreases-loop-left : goal.decreases-loop-left
decreases-loop-left g l = l.left
