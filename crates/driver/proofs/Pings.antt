-- A server is sent a PING.
use Rattle.std.proofs.Common.{◌≡◌, ℕ, true, [], ◌∷◌, Some, sym, ap, subst}
use Rattle.std.specs.Global.{Vec}
use Rattle.driver.specs.declared.link.Session.{Session}
use Rattle.driver.specs.declared.link.Stage.{Stage}
use Rattle.driver.specs.declared.link.Stage.TheVariants.{Open}
use Rattle.driver.specs.declared.order.Order.TheVariants.{Send}
use Rattle.driver.specs.declared.timer.Timer.{Timer}
use Rattle.driver.specs.Monitors.{at}
use Rattle.driver.specs.Servers.{AsksForWord, is_quiet, is_unasked, ping_line}
use Rattle.driver.specs.Telling.{Ordered, ordered}

pub asked_by : (now : ℕ) (stage : Stage) (session : Session) (asked : Timer) (ping : Vec ℕ) (before after : Ordered) → stage ≡ Open session → is_unasked session now ≡ true → asked ≡ at now → ping.items ≡ ping_line → after ≡ ordered before (Send ping ∷ []) → AsksForWord (is_quiet stage now) now stage before (Open (record session { asked = Some asked })) after
asked_by now stage session asked ping before after is quiet now_is items orders =
    subst (λ (stage : Stage). AsksForWord (is_quiet stage now) now stage before (Open (record session { asked = Some asked })) after) (sym is)
    (subst (λ quiet. AsksForWord quiet now (Open session) before (Open (record session { asked = Some asked })) after) (sym quiet)
    (ping, items, orders, ap (λ (timer : Timer). Open (record session { asked = Some timer })) now_is))
