use Rattle.std.proofs.Common.{rules, ◌≡◌, ◌<◌, [], ◌∷◌, ◌++◌, length}
use Rattle.std.proofs.lemmas.Grind.{common_steps}
use Rattle.recorder.specs.InputReadings.{text_of_event}
use Rattle.recorder.proofs.EventsSoFar.{one_written}
use Rattle.recorder.proofs.writing.write_events.Goals as goal

pub loop-event-preserved : goal.loop-event-preserved
loop-event-preserved g c =
    let w = g.B.Wire in
    let e = c.event-item.result in
    let at = c.loop-event.event-index in
    let lt : at < length c.args.events.now = search (rules, common_steps) in
    let t : c.push.new.self.items ≡ (c.loop-event.out.items ++ text_of_event w.spelled w.fits e) ++ 10 ∷ [] = search (rules, common_steps) in
    one_written w.spelled w.fits c.loop-event.out.items c.push.new.self.items c.args.events.now at e c.loop-event.invariant lt (search (rules, common_steps)) c.in_ok-push_event.ensures.fits t
