use Rattle.std.proofs.Common.{◌≡◌}
use Rattle.toml.specs.View.{members_view}
use Rattle.bouncer_config.specs.Wrong.{first_unknown}
use Rattle.bouncer_config.proofs.unknown.check_names.Given as goal

abbrev pub invariant-names : goal.invariant-names
invariant-names l =
    (goal.iterator-names).can_next l.name-iterator × (goal.iterator-names).is_finite l.name-iterator
    × (first_unknown (members_view l.name-iterator) ≡ first_unknown (members_view l.table.entries))
