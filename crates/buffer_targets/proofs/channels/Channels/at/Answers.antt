use Rattle.std.proofs.Common.{rules, ◌≡◌, length, arith}
use Rattle.buffer_targets.proofs.ChannelEdits.{channel_found, none_of_key, place_in_range}
use Rattle.buffer_targets.proofs.channels.Channels.at.Goals as goal

pub returns-then-at-len : goal.returns-then-at-len
returns-then-at-len c = λ key stands.
    channel_found key _ c.in-Some.at (rw c.self.view_is at c.self.invariant) (rw c.in-Some.is at stands) _ (rw c.self.view_is at c.index.ensures)

pub returns-else-at-len : goal.returns-else-at-len
returns-else-at-len c = λ key stands.
    let within = place_in_range key c.args.self.now c.in-Some.at (rw c.in-Some.is at stands) in
    let many : c.len.result ≡ length c.args.self.now = rw (← c.self.view_is) (search rules) in
    absurd (omega (arith, within, many, c.if-at-len.false))

pub returns-in-None : goal.returns-in-None
returns-in-None c = λ key stands. none_of_key key c.args.self.now (rw c.in-None.is at stands)
