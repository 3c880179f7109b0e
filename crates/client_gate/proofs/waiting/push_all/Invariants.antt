use Rattle.std.proofs.Common.{◌≡◌, ◌+◌, ◌≤◌, ◌++◌, length}
use Rattle.std.specs.Vec.Iter.{into_iter_items}
use Rattle.client_gate.proofs.waiting.push_all.Given as goal

abbrev pub invariant-loop-request : goal.invariant-loop-request
invariant-loop-request l =
    record {
      capacity : l.waiting.capacity ≡ l.initial.waiting.capacity;
      items : l.waiting.items ++ into_iter_items l.request-iterator ≡ l.initial.waiting.items ++ l.fn.requests.items;
      room : length l.waiting.items + length (into_iter_items l.request-iterator) ≤ l.waiting.capacity;
    }
