use Rattle.std.proofs.Common.{rules, ◌≡◌, ◌∙◌, ap, sym, set, get_or, Option}
use Rattle.std.proofs.lemmas.List.Edits.{map_over_more}
use Rattle.driver.specs.declared.retirement.Retirement.{Retirement}
use Rattle.driver.specs.Retiring.{heard_in}
use Rattle.driver.proofs.retirements.hear_each.Goals as goal

pub loop-place-preserved : goal.loop-place-preserved
loop-place-preserved c =
    let places = c.loop-place.places in
    let at = c.loop-place.place-index in
    let hear = heard_in c.args.node c.args.status.now c.args.done c.args.is_refused in
    let same : c.place-item.result ≡ get_or places at c.place-item.result = search rules in
    ap (λ (place : Option Retirement). set places at place) (c.hear_at.ensures ∙ ap hear (sym same))
    ∙ map_over_more hear c.args.places.now places at c.place-item.result c.loop-place-test.true c.loop-place.invariant same
