use Rattle.std.proofs.Common.{ap}
use Rattle.buffer_machine.specs.Machine.{held_of}
use Rattle.buffer_machine.specs.Steps.{with_channels}
use Rattle.buffer_machine.proofs.Stored.{both-stored, line-stored, line-unstored, still-placed}
use Rattle.buffer_machine.proofs.storing.store.Goals as goal

pub returns-then-stores_in_channel : goal.returns-then-stores_in_channel
returns-then-stores_in_channel c =
    let h = held_of c.args.buffers.now in
    let i = held_of c.store_in_query.new.buffers in
    let placed = still-placed h i c.args.line c.args.place _ c.in_ok-store_in_query.ensures c.requires in
    both-stored c.args.setup.now h i _ (c.args.at, c.args.line) c.in_ok-store_in_query.ensures
    (line-stored c.args.setup.now i c.args.at c.args.line c.stores_in_channel.result _ c.stores_in_channel.ensures c.if-stores_in_channel.true (rw c.new.ensures at (c.keep_in_channel.ensures _ placed)))

pub returns-else-stores_in_channel : goal.returns-else-stores_in_channel
returns-else-stores_in_channel c =
    let h = held_of c.args.buffers.now in
    let i = held_of c.store_in_query.new.buffers in
    both-stored c.args.setup.now h i i (c.args.at, c.args.line) c.in_ok-store_in_query.ensures
    (ap (with_channels i) (line-unstored c.args.setup.now i c.args.at c.args.line c.stores_in_channel.result c.stores_in_channel.ensures c.if-stores_in_channel.false))
