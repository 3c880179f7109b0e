use Rattle.std.proofs.Common.{rules}
use Rattle.std.specs.Ordering.{nat_cmp}
use Rattle.std.specs.Cmp.Lexicographic.{slice_cmp}
use Rattle.std.proofs.lemmas.Fn.{always_returns_same}
use Rattle.irc_line.specs.Names.{fold_name}
use Rattle.buffer_targets.proofs.ChannelEdits.{channel_searched}
use Rattle.buffer_targets.proofs.channels.Channels.search.Goals as goal

-- the closure compares a channel's key, and the slice is the channels
pub returns-clause-place : goal.returns-clause-place
returns-clause-place c =
    let facts = c.binary_search_by.ensures in
    let by_key = facts.position (λ x. slice_cmp nat_cmp (fold_name x.target.name) (fold_name c.args.name.now)) (always_returns_same _ _ _ (λ a r g called. search rules)) in
    rw (← c.self.view_is, ← c.deref.ensures.value) (channel_searched (fold_name c.args.name.now) _ (rw c.deref.ensures.value c.self.invariant) _ facts.bound by_key)
