use Rattle.std.proofs.Common.{rules, ◌≡◌, length, arith, ap}
use Rattle.buffer_targets.specs.Targets.{over, pushed}
use Rattle.buffer_targets.proofs.ChannelEdits.{channel_set, rising_set, none_set, place_in_range}
use Rattle.buffer_targets.proofs.channels.Channels.store_at.Goals as goal

pub invariant_of-self : goal.invariant_of-self
invariant_of-self c = rising_set _ c.in-Some.at _ _ c.self.invariant c.index_mut.ensures.value (ap (λ x. x.target.name) c.push.ensures)

pub returns-then-at-len : goal.returns-then-at-len
returns-then-at-len c = λ key stands.
    rw (← c.self.view_is) (channel_set key _ c.in-Some.at c.self.invariant (rw (c.in-Some.is, ← c.self.view_is) at stands) (over (pushed c.args.line c.args.here.now)) _ _ c.index_mut.ensures.value c.push.ensures)

pub returns-else-at-len : goal.returns-else-at-len
returns-else-at-len c = λ key stands.
    let within = place_in_range key c.args.self.now c.in-Some.at (rw c.in-Some.is at stands) in
    let many : c.len.result ≡ length c.args.self.now = rw (← c.self.view_is) (search rules) in
    absurd (omega (arith, within, many, c.if-at-len.false))

pub returns-in-None : goal.returns-in-None
returns-in-None c = λ key stands. none_set key c.args.self.now (rw c.in-None.is at stands) (over (pushed c.args.line c.args.here.now))
