-- A client that is to leave, and one that has been leaving for too long.
use Rattle.std.specs.Prelude.{◌≡◌, ◌&&◌, ℕ, Bool, true, false, not, List, ◌∷◌, Option, Some, None}
use Rattle.client_gate.specs.declared.settings.Settings.{Settings}
use Rattle.client_gate.specs.Calls.{Call, End, gate}
use Rattle.client_gate.specs.Gates.{last_request}
use Rattle.wire_bytes.specs.declared.moment.Moment.{Moment}
use Rattle.driver.specs.declared.client.Client.{Client}
use Rattle.driver.specs.declared.timer.Timer.{Timer}
use Rattle.driver.specs.Asking.{begun, now_asked}
use Rattle.driver.specs.Clients.{is_leaving, last_asks}
use Rattle.driver.specs.Monitors.{at, is_over}
use Rattle.driver.specs.Serving.{PartsIf, StandsSo, is_done}
use Rattle.driver.specs.Telling.{Ordered, ordered}
use Rattle.driver.specs.declared.client.farewell.TheConstants.{LEAVES_WITHIN}

-- a client that has been leaving since then has been for too long
abbrev pub is_late : Option Timer → ℕ → Bool
is_late None now = false
is_late (Some since) now = is_over since LEAVES_WITHIN now

-- a connected client has been leaving for too long
abbrev pub is_overdue : Client → ℕ → Bool
is_overdue c now = not c.is_gone && is_late c.leaving now

-- a client that leaves from this moment on
abbrev pub leaving_from : ℕ → Client → Client
leaving_from now c = record c { leaving = Some (at now) }

-- A client leaves from now on: its last request goes to its node, if it registered; if nothing is left to do, it is
-- closed.
pub record Leaves (now : ℕ) (moment : Moment) (s : Settings) (calls : List Call) (old : Client) (before : Ordered) (new : Client) (after : Ordered) : Type 0 where
  pub told : Client
  pub orders : Ordered
  pub asks : orders ≡ ordered before (last_asks old.origin moment (last_request (gate s calls)))
  pub stands : StandsSo s (End ∷ calls) (leaving_from now (begun (now_asked before now old) (gate s calls).waiting old)) told
  pub parts : PartsIf (is_done (gate s (End ∷ calls)).waiting told) moment s (End ∷ calls) told orders new after

-- A client is to leave, as if it had sent QUIT. If it is leaving already, or its connection is gone, nothing changes.
pub record IsDismissed (now : ℕ) (moment : Moment) (s : Settings) (calls : List Call) (old : Client) (before : Ordered) (new : Client) (after : Ordered) : Type 0 where
  pub leaving : is_leaving old ≡ true → (new ≡ old) × (after ≡ before)
  pub leaves : is_leaving old ≡ false → Leaves now moment s calls old before new after
