use Rattle.std.proofs.Common.{ap, not, ◌∙◌}
use Rattle.buffer_machine.specs.Machine.{held_of}
use Rattle.buffer_machine.specs.Steps.{with_channels}
use Rattle.buffer_machine.proofs.Stored.{line-stored, line-unplaced, line-unstored}
use Rattle.buffer_machine.proofs.storing.store_in_channel.Goals as goal

pub returns-then-is_none : goal.returns-then-is_none
returns-then-is_none c =
    ap (with_channels (held_of c.args.buffers.now)) (line-unplaced c.args.setup.now (held_of c.args.buffers.now) c.args.at c.args.line.now c.args.place c.requires (c.is_none.ensures ∙ ap not c.if-is_none.true))

pub returns-then-not-stores_in_channel : goal.returns-then-not-stores_in_channel
returns-then-not-stores_in_channel c =
    ap (with_channels (held_of c.args.buffers.now)) (line-unstored c.args.setup.now (held_of c.args.buffers.now) c.args.at c.args.line.now c.stores_in_channel.result c.stores_in_channel.ensures c.if-not-stores_in_channel.true)

pub returns : goal.returns
returns c =
    line-stored c.args.setup.now (held_of c.args.buffers.now) c.args.at c.args.line.now c.stores_in_channel.result _ c.stores_in_channel.ensures c.if-not-stores_in_channel.false (rw (c.new.ensures, c.in_ok-line.ensures) at (c.keep_in_channel.ensures _ c.requires))
