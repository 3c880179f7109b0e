use Rattle.std.proofs.Common.{◌≡◌, take}
use Rattle.std.specs.Prelude.{filter}
use Rattle.renewal.specs.Moved.{is_added}
use Rattle.renewal.proofs.change.added.Given as goal

abbrev pub invariant-loop-name : goal.invariant-loop-name
invariant-loop-name l = l.names.items ≡ filter (is_added l.change.from.now l.channels) (take l.name-index l.change.to.now.channels)
