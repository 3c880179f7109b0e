use Rattle.std.proofs.Common.{◌≡◌, [], map}
use Rattle.toml.specs.View.{members_view}
use Rattle.bouncer_config.specs.Found.{pairs_after}
use Rattle.bouncer_config.proofs.channel_keys.pairs_of.Given as goal

abbrev pub invariant-pairs : goal.invariant-pairs
invariant-pairs l =
    (goal.iterator-pairs).can_next l.channel-iterator × (goal.iterator-pairs).is_finite l.channel-iterator
    × (pairs_after (map (λ k. (k.channel, k.key)) l.pairs.items) (members_view l.channel-iterator) ≡ pairs_after [] (members_view l.table.entries))
