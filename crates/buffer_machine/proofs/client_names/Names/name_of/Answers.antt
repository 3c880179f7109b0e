use Rattle.std.proofs.Common.{length}
use Rattle.buffer_machine.proofs.Readers.{below_more}
use Rattle.buffer_machine.proofs.client_names.Names.name_of.Goals as goal

pub name_in-requires : goal.name_in-requires
name_in-requires c =
    rw c.as_slice.ensures.value (below_more (length c.self.inside.ids.items) 64 c.self.inside.holders.items c.self.invariant.0 c.self.invariant.1)
