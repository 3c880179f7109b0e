use Rattle.irc_line.specs.Names.{fold_name}
use Rattle.buffer_targets.proofs.ChannelEdits.{channel_removed, rising_removed, no_channel_removed}
use Rattle.buffer_targets.proofs.channels.Channels.remove_at.Goals as goal

pub invariant_of-self : goal.invariant_of-self
invariant_of-self c =
    rw c.remove.ensures.items (rising_removed (fold_name c.args.name.now) _ c.in-Ok.at c.self.invariant (rw (← c.self.view_is) at c.in-Ok.ensures.place))

pub returns-in-Ok : goal.returns-in-Ok
returns-in-Ok c =
    rw (c.remove.ensures.items, ← c.self.view_is) (channel_removed (fold_name c.args.name.now) _ c.in-Ok.at c.self.invariant (rw (← c.self.view_is) at c.in-Ok.ensures.place))

pub returns-in-Err : goal.returns-in-Err
returns-in-Err c = no_channel_removed _ _ _ c.in-Err.ensures.place
