use Rattle.std.proofs.Common.{◌≡◌, ◌≤◌, length}
use Rattle.client_gate.specs.Gates.{behind_number}
use Rattle.client_gate.proofs.waiting.drop_answered.Given as goal

abbrev pub invariant-loop-waiting : goal.invariant-loop-waiting
invariant-loop-waiting l =
    record {
      capacity : l.waiting.capacity ≡ l.initial.waiting.capacity;
      items : behind_number l.number l.waiting.items ≡ behind_number l.number l.initial.waiting.items;
      fewer : length l.waiting.items ≤ length l.initial.waiting.items;
    }

abbrev pub decreases-loop-waiting : goal.decreases-loop-waiting
decreases-loop-waiting l = length l.waiting.items
