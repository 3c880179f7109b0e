-- What time does to a client.
use Rattle.std.specs.Prelude.{◌*◌, ◌≡◌, ◌&&◌, ◌||◌, ℕ, Bool, true, false, not, codes, if◌then◌else◌, List, [], ◌∷◌, ◌++◌, Option, Some, None, is_some}
use Rattle.std.specs.Global.{Vec}
use Rattle.client_gate.specs.declared.settings.Settings.{Settings}
use Rattle.client_gate.specs.Calls.{Call, gate}
use Rattle.wire_bytes.specs.declared.moment.Moment.{Moment}
use Rattle.driver.specs.declared.client.Client.{Client}
use Rattle.driver.specs.declared.order.Order.{Order}
use Rattle.driver.specs.declared.order.Order.TheVariants.{Write}
use Rattle.driver.specs.Asking.{anew_if, asks_if, is_stuck, now_asked}
use Rattle.driver.specs.Clients.{due_answer, is_leaving}
use Rattle.driver.specs.Monitors.{at, is_over}
use Rattle.driver.specs.Serving.{IsLost}
use Rattle.driver.specs.Telling.{Ordered, ordered}
use Rattle.driver.specs.declared.client.silence.TheConstants.{REGISTERS_WITHIN, SILENCE}

-- a client did not register within 10 seconds, or did not answer within four minutes
abbrev pub is_too_slow : Client → ℕ → Bool
is_too_slow c now = if c.is_attached then c.is_pinged && is_over c.heard (2 * SILENCE) now else is_over c.since REGISTERS_WITHIN now

-- a client that is still there, and is not leaving, is told at this moment that its password was wrong, or is too slow
abbrev pub is_to_go : Client → ℕ → Bool
is_to_go c now = if is_leaving c then false else (is_some (due_answer c.refused now) || is_too_slow c now)

-- A client that is not read: its time to be silent begins anew. One that did not register is read in any case.
abbrev pub held_back : ℕ → Client → Client
held_back now c = record c { heard = if c.is_attached then at now else c.heard }

-- A client after time in which it was read or was not: what it says is heard only if it is read.
abbrev pub waited : Bool → ℕ → Client → Client
waited reads now c = if reads then c else held_back now c

-- what a client that is too slow is sent, whether it registered or not
abbrev pub late_line : Bool → List ℕ
late_line true = codes "ERROR :no word from you for too long" ++ 13 ∷ 10 ∷ []
late_line false = codes "ERROR :you did not register in time" ++ 13 ∷ 10 ∷ []

-- the last line of a client: what its gate answered to a wrong password, or else that it was too slow
abbrev pub last_line_by : Bool → Option (List ℕ) → List ℕ
last_line_by attached None = late_line attached
last_line_by attached (Some answer) = answer

abbrev pub last_line : Client → ℕ → List ℕ
last_line c now = last_line_by c.is_attached (due_answer c.refused now)

-- A client that is to go gets the reason, and is closed.
pub record IsSentOff (now : ℕ) (at : Moment) (s : Settings) (calls : List Call) (old : Client) (before : Ordered) (new : Client) (after : Ordered) : Type 0 where
  pub line : Vec ℕ
  pub says : line.items ≡ last_line old now
  pub lost : IsLost now at s calls old (ordered before (Write old.origin.2 line ∷ [])) new after

-- a client that is still there, and is not leaving, was silent for two minutes, and was sent no PING since
abbrev pub is_silent : Client → ℕ → Bool
is_silent c now = not (c.is_pinged || is_leaving c || not (is_over c.heard SILENCE now))

-- a client is sent a PING, if this is so
abbrev pub IsPing : Bool → ℕ → List Order → Type 0
IsPing false client orders = orders ≡ []
IsPing true client orders =
    (bytes : Vec ℕ) × (bytes.items ≡ codes "PING bouncer.local" ++ 13 ∷ 10 ∷ []) × (orders ≡ Write client bytes ∷ [])

-- a client that is silent is sent a PING, and that is remembered
pub record IsAsked (old : Client) (now : ℕ) (before : Ordered) (new : Client) (after : Ordered) : Type 0 where
  pub ping : List Order
  pub is_ping : IsPing (is_silent old now) old.origin.2 ping
  pub orders : after ≡ ordered before ping
  pub is_known : new ≡ record old { is_pinged = old.is_pinged || is_silent old now }

-- A client that is not to go: one that is silent is sent a PING; and if it is held up what waits is sent again, once
-- each timeout.
pub record IsKept (timeout now : ℕ) (at : Moment) (s : Settings) (calls : List Call) (old : Client) (before : Ordered) (new : Client) (after : Ordered) : Type 0 where
  pub pinged : Client
  pub told : Ordered
  pub asked : IsAsked old now before pinged told
  pub orders : after ≡ asks_if (is_stuck timeout now old) old at (gate s calls).waiting told
  pub client : new ≡ anew_if (is_stuck timeout now old) (now_asked told now old) pinged
