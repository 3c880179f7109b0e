-- What waits when the server gives a session: once.
use Rattle.std.proofs.Common.{◌≡◌, ◌∙◌, Bool, false, List, refl, sym, ap}
use Rattle.std.specs.Prelude.{if◌then◌else◌}
use Rattle.irc_line.specs.Lines.{Parts}
use Rattle.driver.specs.declared.link.Link.{Link}
use Rattle.driver.specs.declared.link.Stage.{Stage}
use Rattle.driver.specs.declared.link.Stage.TheVariants.{Closing, Connecting, Idle, Open}
use Rattle.driver.specs.Absent.{cleared}
use Rattle.driver.specs.Links.{is_fresh, opened as opened_stage}
use Rattle.driver.specs.Outgoing.{with_opening}
use Rattle.driver.specs.Sessions.{OpensOnce, opened_with}

opened_again : (stage : Stage) → opened_stage (opened_stage stage) ≡ opened_stage stage
opened_again (Idle since wait) = refl
opened_again (Closing since wait) = refl
opened_again (Connecting node) = refl
opened_again (Open session) = refl

opened_old : (stage : Stage) → is_fresh (opened_stage stage) ≡ false
opened_old (Idle since wait) = refl
opened_old (Closing since wait) = refl
opened_old (Connecting node) = refl
opened_old (Open session) = refl

pub opens_once : OpensOnce
opens_once lines link =
    let once = opened_with lines link in
    ap
    (λ (fresh : Bool). record once { stage = opened_stage once.stage; waiting = if fresh then with_opening lines once.waiting else once.waiting; absent = if fresh then cleared once.absent else once.absent })
    (opened_old link.stage)
    ∙ ap (λ (stage : Stage). record once { stage = stage }) (opened_again link.stage)
