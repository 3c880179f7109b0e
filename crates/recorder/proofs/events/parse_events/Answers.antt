use Rattle.std.proofs.Common.{rules, ◌≡◌, ◌<◌, ◌+◌, suc, length}
use Rattle.std.proofs.lemmas.Grind.{common_steps}
use Rattle.recorder.proofs.EventsSoFar.{bad_line}
use Rattle.recorder.proofs.Writable.{all_are}
use Rattle.recorder.proofs.events.parse_events.Goals as goal

pub returns-in-None-clause-bad : goal.returns-in-None-clause-bad
returns-in-None-clause-bad g c =
    let w = g.B.Wire in
    let rest = c.loop-rest.rest.now in
    let some : 0 < length rest = search (rules, common_steps) in
    let counted : c.len.result + 1 ≡ suc (length c.loop-rest.events.items) = search (rules, common_steps) in
    bad_line w.spelled w.fits c.args.text.now rest c.loop-rest.events.items c.loop-rest.invariant some (rw c.in-None.is at c.in_ok-event.ensures) (c.len.result + 1) counted

pub returns-clause-writable : goal.returns-clause-writable
returns-clause-writable g c = all_are g.B.Wire.spelled g.B.Wire.fits c.loop-rest.events.items c.loop-rest.invariant.0
