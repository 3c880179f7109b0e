use Rattle.std.proofs.Common.{refl}
use Rattle.irc_line.specs.Names.{fold_name}
use Rattle.buffer_targets.specs.Targets.{over, resized}
use Rattle.buffer_targets.proofs.ChannelEdits.{channel_keeps, channel_set_ok, rising_set, same_name_of, no_channel_set}
use Rattle.buffer_targets.proofs.channels.Channels.resize_at.Goals as goal

pub invariant_of-self : goal.invariant_of-self
invariant_of-self c =
    rising_set _ c.in-Ok.at _ _ c.self.invariant c.index_mut.ensures.value (same_name_of c.resize.result (over (resized c.args.size)) (λ x. refl) _ _ c.resize.ensures.ok c.resize.ensures.err)

pub returns-in-Ok-clause-ok : goal.returns-in-Ok-clause-ok
returns-in-Ok-clause-ok c =
    rw (← c.self.view_is) (channel_set_ok (fold_name c.args.name.now) _ c.in-Ok.at c.self.invariant (rw (← c.self.view_is) at c.in-Ok.ensures.place) c.resize.result (over (resized c.args.size)) _ _ c.index_mut.ensures.value c.resize.ensures.ok)

pub returns-in-Err-clause-ok : goal.returns-in-Err-clause-ok
returns-in-Err-clause-ok c = no_channel_set _ _ _ c.in-Err.ensures.place (over (resized c.args.size))

pub returns-in-Ok-clause-smaller : goal.returns-in-Ok-clause-smaller
returns-in-Ok-clause-smaller c = λ keeps.
    c.resize.ensures.smaller (channel_keeps (fold_name c.args.name.now) _ c.in-Ok.at (rw c.self.view_is at c.self.invariant) c.in-Ok.ensures.place c.args.size _ (rw c.self.view_is at c.index_mut.ensures.value) keeps)
