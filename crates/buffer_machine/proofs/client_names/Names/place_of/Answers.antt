use Rattle.std.proofs.Common.{◌≡◌}
use Rattle.buffer_machine.specs.Held.{index_in}
use Rattle.buffer_machine.proofs.Readers.{place_low}
use Rattle.buffer_machine.proofs.client_names.Names.place_of.Goals as goal

pub returns-clause-within : goal.returns-clause-within
returns-clause-within c = λ m.
    let place : c.place_in.result ≡ index_in c.args.id.now c.self.inside.ids.items = rw c.as_slice.ensures.value at c.place_in.ensures in
    rw place (place_low c.args.id.now c.self.inside.ids.items c.self.invariant.0 (rw (← c.self.view_is) at m))
