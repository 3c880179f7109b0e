use Rattle.buffer_machine.specs.Machine.{held_of}
use Rattle.buffer_machine.proofs.Stored.{line-taken}
use Rattle.buffer_machine.proofs.hearing.take_line.Goals as goal

pub returns : goal.returns
returns c =
    line-taken c.args.setup.now (held_of c.args.buffers.now) (held_of c.store_in_query.new.buffers) (held_of c.take_for_channel.new.buffers) c.args.at c.args.line.now _ c.in_ok-store_in_query.ensures c.in_ok-take_for_channel.ensures c.in_ok-take_nick.ensures
