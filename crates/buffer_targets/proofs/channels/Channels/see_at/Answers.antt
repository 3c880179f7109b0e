use Rattle.std.proofs.Common.{ap}
use Rattle.irc_line.specs.Names.{fold_name}
use Rattle.buffer_targets.specs.Targets.{over, seen_all}
use Rattle.buffer_targets.proofs.ChannelEdits.{channel_set, rising_set, no_channel_set}
use Rattle.buffer_targets.proofs.channels.Channels.see_at.Goals as goal

pub invariant_of-self : goal.invariant_of-self
invariant_of-self c = rising_set _ c.in-Ok.at _ _ c.self.invariant c.index_mut.ensures.value (ap (λ x. x.target.name) c.see.ensures)

pub returns-in-Ok : goal.returns-in-Ok
returns-in-Ok c =
    rw (← c.self.view_is) (channel_set (fold_name c.args.name.now) _ c.in-Ok.at c.self.invariant (rw (← c.self.view_is) at c.in-Ok.ensures.place) (over (seen_all c.args.here.now)) _ _ c.index_mut.ensures.value c.see.ensures)

pub returns-in-Err : goal.returns-in-Err
returns-in-Err c = no_channel_set _ _ _ c.in-Err.ensures.place (over (seen_all c.args.here.now))
