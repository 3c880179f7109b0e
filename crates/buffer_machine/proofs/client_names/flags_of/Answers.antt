use Rattle.buffer_machine.proofs.Readers.{flags_step}
use Rattle.buffer_machine.proofs.client_names.flags_of.Goals as goal

pub loop-holder-preserved : goal.loop-holder-preserved
loop-holder-preserved c =
    flags_step c.loop-holder.here c.args.holders.now c.loop-holder.holder-index c.holder-item.result c.loop-holder.invariant c.loop-holder-test.true c.holder-item.is c.requires
