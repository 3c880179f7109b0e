use Rattle.std.proofs.Common.{◌≡◌, ◌∙◌, sym, []}
use Rattle.std.proofs.lemmas.List.{nil_from_length}
use Rattle.std.specs.Vec.Iter.{into_iter_items}
use Rattle.driver.proofs.Sessions.{tell_more, tell_none}
use Rattle.driver.proofs.driver.Driver.tell_all.Goals as goal

pub loop-note-preserved : goal.loop-note-preserved
loop-note-preserved c new more =
    c.loop-note.invariant new
    (tell_more c.args.node c.in-Some.note (into_iter_items c.loop-note.note-iterator) (into_iter_items c.next.new.self) c.loop-note.self c.tell_of.new.self new c.in-Some.ensures.steps.0 c.in_ok-tell_of.ensures more)

pub returns : goal.returns
returns c =
    let left = into_iter_items c.loop-note.note-iterator in
    let none : left ≡ [] = nil_from_length left (sym c.loop-note.note-iterator.rest.ok.0 ∙ c.in-None.ensures.steps.0) in
    c.loop-note.invariant c.loop-note.self (tell_none c.args.node left c.loop-note.self none)
