use Rattle.std.proofs.Common.{refl, length}
use Rattle.buffer_machine.proofs.Readers.{below_filter, below_more}
use Rattle.buffer_machine.proofs.client_names.Names.remove.Goals as goal

pub flags_of-self-inside-requires : goal.flags_of-self-inside-requires
flags_of-self-inside-requires c =
    rw (c.as_slice.ensures.value, c.drop_client.ensures) (below_more (length c.self.inside.ids.items) 64 _ c.self.invariant.0 (below_filter (length c.self.inside.ids.items) _ c.self.inside.holders.items c.self.invariant.1))

pub invariant_of-self : goal.invariant_of-self
invariant_of-self c =
    (c.self.invariant.0, rw c.drop_client.ensures (below_filter (length c.self.inside.ids.items) _ c.self.inside.holders.items c.self.invariant.1), rw c.as_slice.ensures.value at c.flags_of-self-inside.ensures)

pub returns : goal.returns
returns c = rw (← c.self.view_is, c.drop_client.ensures) refl
