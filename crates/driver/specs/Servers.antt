-- A server that says nothing.
use Rattle.std.specs.Prelude.{◌≡◌, ◌++◌, ◌&&◌, ℕ, Bool, true, false, not, codes, List, [], ◌∷◌, Option, Some, None}
use Rattle.std.specs.Option.{is_some}
use Rattle.std.specs.Global.{Vec}
use Rattle.driver.specs.declared.link.Session.{Session}
use Rattle.driver.specs.declared.link.Stage.{Stage}
use Rattle.driver.specs.declared.link.Stage.TheVariants.{Closing, Idle, Connecting, Open}
use Rattle.driver.specs.declared.order.Order.TheVariants.{Send}
use Rattle.driver.specs.declared.timer.Timer.{Timer}
use Rattle.driver.specs.Monitors.{at, is_over}
use Rattle.driver.specs.Telling.{Ordered, ordered}
use Rattle.driver.specs.declared.link.silence.TheConstants.{QUIET, TIME_TO_CLOSE, UNOPENED}

-- the server said nothing in the 75 seconds after it was sent a PING; or it gave no session, and said nothing for 150
abbrev pub is_mute : Bool → Option Timer → Timer → ℕ → Bool
is_mute given None heard now = not given && is_over heard UNOPENED now
is_mute given (Some asked) heard now = is_over asked QUIET now

-- the server had its time to answer, or to close a connection whose session it knows is over: a second
abbrev pub is_silent : Stage → ℕ → Bool
is_silent (Idle since wait) now = false
is_silent (Closing since wait) now = is_over since TIME_TO_CLOSE now
is_silent (Connecting node) now = false
is_silent (Open session) now = is_mute session.is_opened session.asked session.heard now

-- the server gave the session, said nothing for 75 seconds, and was sent no PING since
abbrev pub is_unasked : Session → ℕ → Bool
is_unasked session now = session.is_opened && not (is_some session.asked) && is_over session.heard QUIET now

-- there is a session, and that holds for its server
abbrev pub is_quiet : Stage → ℕ → Bool
is_quiet (Idle since wait) now = false
is_quiet (Closing since wait) now = false
is_quiet (Connecting node) now = false
is_quiet (Open session) now = is_unasked session now

-- the server was sent a PING at this moment
abbrev pub asked_at : ℕ → Stage → Stage
asked_at now (Idle since wait) = Idle since wait
asked_at now (Closing since wait) = Closing since wait
asked_at now (Connecting node) = Connecting node
asked_at now (Open session) = Open (record session { asked = Some (at now) })

-- the driver's PING (RFC 2812, 3.7.2)
abbrev pub ping_line : List ℕ
ping_line = codes "PING :hukbarg" ++ 13 ∷ 10 ∷ []

-- The server is sent a PING if this is so, and else nothing changes.
abbrev pub AsksForWord : Bool → ℕ → Stage → Ordered → Stage → Ordered → Type 0
AsksForWord false now old before new after = (new ≡ old) × (after ≡ before)
AsksForWord true now old before new after =
    (ping : Vec ℕ) × (ping.items ≡ ping_line) × (after ≡ ordered before (Send ping ∷ [])) × (new ≡ asked_at now old)
