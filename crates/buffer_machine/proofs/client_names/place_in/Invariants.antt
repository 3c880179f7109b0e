use Rattle.std.proofs.Common.{◌≡◌, ◌+◌, drop}
use Rattle.buffer_machine.specs.Held.{index_in}
use Rattle.buffer_machine.proofs.client_names.place_in.Given as goal

abbrev pub invariant-loop-known : goal.invariant-loop-known
invariant-loop-known l =
    (l.place ≡ l.known-index) × (index_in l.id l.ids ≡ l.known-index + index_in l.id (drop l.known-index l.ids))
