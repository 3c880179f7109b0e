use Rattle.bouncer_run.proofs.Responded.{is_noted}
use Rattle.bouncer_run.proofs.gone.tell_gone.Goals as goal

pub returns-in_ok-notice-in-0 : goal.returns-in_ok-notice-in-0
returns-in_ok-notice-in-0 c = is_noted _ c.args.driver.now c.notice.new.self c.in_ok-notice-in-0.ensures.told c.in_ok-notice-in-0.ensures.rest

pub returns-in_ok-notice-in-1 : goal.returns-in_ok-notice-in-1
returns-in_ok-notice-in-1 c = is_noted _ c.args.driver.now c.notice-in-1.new.self c.in_ok-notice-in-1.ensures.told c.in_ok-notice-in-1.ensures.rest

pub returns-in_ok-notice-in_default : goal.returns-in_ok-notice-in_default
returns-in_ok-notice-in_default c =
    is_noted c.as_bytes.result.now c.args.driver.now c.notice-in_default.new.self
    c.in_ok-notice-in_default.ensures.told c.in_ok-notice-in_default.ensures.rest
