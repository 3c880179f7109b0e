use Rattle.std.proofs.Common.{ap}
use Rattle.buffer_machine.specs.Machine.{held_of}
use Rattle.buffer_machine.specs.Steps.{with_queries}
use Rattle.buffer_machine.proofs.Stored.{query-unstored, sender-named}
use Rattle.buffer_machine.proofs.storing.store_in_query.Goals as goal

pub sender-requires : goal.sender-requires
sender-requires c = sender-named c.args.setup.now (held_of c.args.buffers.now) c.args.at c.args.line.now c.stores_in_query.result c.stores_in_query.ensures c.if-not-stores_in_query.false

pub returns-then-not-stores_in_query : goal.returns-then-not-stores_in_query
returns-then-not-stores_in_query c =
    ap (with_queries (held_of c.args.buffers.now)) (query-unstored c.args.setup.now (held_of c.args.buffers.now) c.args.at c.args.line.now c.stores_in_query.result c.stores_in_query.ensures c.if-not-stores_in_query.true)
