use Rattle.buffer_targets.proofs.ChannelEdits.{made_names}
use Rattle.buffer_targets.proofs.channels.Channels.new.Goals as goal

pub invariant_of-result : goal.invariant_of-result
invariant_of-result c = rw (c.in_ok-new_channels.ensures, made_names c.args.size c.args.names.now) c.requires
