use Rattle.std.proofs.Common.{Some, sym, ap, ◌∙◌}
use Rattle.std.specs.Option.{option_map}
use Rattle.bouncer_run.specs.Responses.{why_absent}
use Rattle.bouncer_run.proofs.Responded.{some_notes}
use Rattle.bouncer_run.proofs.loop_news.tell_absent.Goals as goal

pub returns-in_ok-text-2 : goal.returns-in_ok-text-2
returns-in_ok-text-2 g c =
    let same = ap (option_map (λ t. t.items)) (sym c.in-Some.is) ∙ c.in_ok-text.ensures in
    some_notes (why_absent c.args.number c.args.driver.now) c.as_slice.result.now c.args.driver.now c.notice.new.self
    (ap Some c.as_slice.ensures.value ∙ same) c.in_ok-notice.ensures.told c.in_ok-notice.ensures.rest
