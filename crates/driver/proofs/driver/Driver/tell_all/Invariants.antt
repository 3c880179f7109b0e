use Rattle.std.specs.Vec.Iter.{into_iter_items}
use Rattle.driver.specs.declared.driver.Driver.{Driver}
use Rattle.driver.specs.Sessions.{TellsAllOf}
use Rattle.driver.proofs.driver.Driver.tell_all.Given as goal

-- once those left are sent, all are
abbrev pub invariant-loop-note : goal.invariant-loop-note
invariant-loop-note l =
    (new : Driver) → TellsAllOf l.node (into_iter_items l.note-iterator) l.self new
    → TellsAllOf l.node l.fn.notes.items l.initial.self new
