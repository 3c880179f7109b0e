use Rattle.std.proofs.Common.{◌≡◌, ◌++◌, drop}
use Rattle.std.specs.Prelude.{filter}
use Rattle.store_setup.specs.Changes.{differs}
use Rattle.store_setup.proofs.changes.changed_of.Given as goal

-- those found so far and those of the rest
abbrev pub invariant-loop-key : goal.invariant-loop-key
invariant-loop-key l = l.changed.items ++ filter (differs l.store l.setup l.nodes) (drop l.key-index l.keys) ≡ filter (differs l.store l.setup l.nodes) l.keys
