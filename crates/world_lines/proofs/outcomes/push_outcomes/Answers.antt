use Rattle.std.proofs.Common.{refl}
use Rattle.std.proofs.lemmas.Option.{slice_get_read}
use Rattle.world_lines.proofs.Onward.{after_outcome}
use Rattle.world_lines.proofs.outcomes.push_outcomes.Goals as goal

pub loop-place-preserved : goal.loop-place-preserved
loop-place-preserved g c =
    let here = c.in-Some.ensures.lookup in
    let got = slice_get_read c.args.outs.now _ c.loop-place.place c.in-Some.outcome.now refl here.3.0 here.1 in
    after_outcome g.E.Words.words g.P.Spelled.spelled _ _ _ _ c.index-events-place.result c.in-Some.outcome.now _ _ _ c.loop-place-test.true c.index-events-place.is got
    c.named_by.ensures c.in_ok-push_outcome.ensures c.loop-place.invariant
