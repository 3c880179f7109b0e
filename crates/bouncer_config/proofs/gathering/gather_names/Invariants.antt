use Rattle.std.proofs.Common.{◌≡◌, ◌++◌, map}
use Rattle.toml.specs.View.{members_view}
use Rattle.bouncer_config.specs.Faults.{told, unknown_names}
use Rattle.bouncer_config.specs.Faults.Told.{NoKey}
use Rattle.bouncer_config.proofs.gathering.gather_names.Given as goal

abbrev pub invariant-names : goal.invariant-names
invariant-names l =
    (goal.iterator-names).can_next l.name-iterator × (goal.iterator-names).is_finite l.name-iterator
    × (told l.faults.items ++ map NoKey (unknown_names (members_view l.name-iterator)) ≡ told l.fn.faults.items ++ map NoKey (unknown_names (members_view l.table.entries)))
