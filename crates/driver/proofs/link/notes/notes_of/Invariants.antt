use Rattle.std.proofs.Common.{◌≡◌, ◌++◌}
use Rattle.std.specs.Vec.Iter.{into_iter_items}
use Rattle.driver.specs.Links.{notes_of}
use Rattle.driver.proofs.link.notes.notes_of.Given as goal

-- the notes so far, and those of what is left, are all
abbrev pub invariant-loop-input : goal.invariant-loop-input
invariant-loop-input l =
    l.notes.items ++ notes_of l.now.at (into_iter_items l.input-iterator)
    ≡ notes_of l.now.at l.fn.inputs.items
