use Rattle.std.proofs.Common.{ap}
use Rattle.irc_line.specs.Names.{fold_name}
use Rattle.buffer_targets.proofs.ChannelEdits.{channel_joined, channel_unknown, channel_made, rising_set, rising_made}
use Rattle.buffer_targets.proofs.channels.Channels.join.Goals as goal

pub invariant_of-self : goal.invariant_of-self
invariant_of-self c = rising_set _ c.in-Ok.at _ _ c.self.invariant c.index_mut.ensures.value (ap (λ x. x.target.name) c.set_joined.ensures)

pub invariant_of-self-in-Err : goal.invariant_of-self-in-Err
invariant_of-self-in-Err c =
    rw c.in_ok-insert-in-Err.ensures.items (rising_made c.args.name.now _ _ c.in-Err.at _ (ap fold_name c.as_bytes.ensures.value) (rw (← c.self.view_is) at c.in-Err.ensures.place) (ap (λ x. x.target.name) c.in_ok-channel-in-Err.ensures) c.self.invariant)

pub returns-in-Ok-clause-ok : goal.returns-in-Ok-clause-ok
returns-in-Ok-clause-ok c =
    rw (← c.self.view_is) (channel_joined c.args.name.now c.args.size _ _ c.in-Ok.at _ _ (ap fold_name c.as_bytes.ensures.value) c.self.invariant (rw (← c.self.view_is) at c.in-Ok.ensures.place) c.index_mut.ensures.value c.set_joined.ensures)

pub returns-in_ok-insert-in-Err-clause-ok : goal.returns-in_ok-insert-in-Err-clause-ok
returns-in_ok-insert-in-Err-clause-ok c =
    rw (c.in_ok-insert-in-Err.ensures.items, ← c.self.view_is) (channel_made c.args.name.now c.args.size _ _ c.in-Err.at _ (ap fold_name c.as_bytes.ensures.value) (rw (← c.self.view_is) at c.in-Err.ensures.place) c.in_ok-channel-in-Err.ensures)

pub returns-in_err-channel-in-Err-clause-known : goal.returns-in_err-channel-in-Err-clause-known
returns-in_err-channel-in-Err-clause-known c = λ known.
    let unknown = channel_unknown (fold_name c.args.name.now) _ c.in-Err.at (rw c.as_bytes.ensures.value at c.in-Err.ensures.place) in
    cc

pub returns-in_err-insert-in-Err-clause-known : goal.returns-in_err-insert-in-Err-clause-known
returns-in_err-insert-in-Err-clause-known c = λ known.
    let unknown = channel_unknown (fold_name c.args.name.now) _ c.in-Err.at (rw c.as_bytes.ensures.value at c.in-Err.ensures.place) in
    cc
