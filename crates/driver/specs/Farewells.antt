-- What a client that leaves is shown, and when its connection is closed.
use Rattle.std.specs.Prelude.{◌≡◌, ℕ, Bool, false, nat_eq, if◌then◌else◌, flat_map, List, [], Some}
use Rattle.std.specs.List.{list_any}
use Rattle.client_gate.specs.declared.settings.Settings.{Settings}
use Rattle.client_gate.specs.Calls.{Call, Stands}
use Rattle.client_gate.specs.Gates.{given_effect}
use Rattle.driver.specs.declared.client.Client.{Client}
use Rattle.driver.specs.declared.order.Order.{Order}
use Rattle.driver.specs.declared.order.Order.TheVariants.{Close, Write}
use Rattle.driver.specs.declared.timer.Timer.{Timer}
use Rattle.driver.specs.Once.{Event, HappenAll, Happening, Learns}
use Rattle.driver.specs.Telling.{Ordered, ordered}

-- the bytes that an order writes to a client
abbrev pub bytes_to : ℕ → Order → List ℕ
bytes_to client (Write other bytes) = if nat_eq other client then bytes.items else []
bytes_to client order = []

-- the bytes that orders write to a client, in order
abbrev pub written_to : ℕ → List Order → List ℕ
written_to client orders = flat_map (bytes_to client) orders

-- this order closes a client's connection
abbrev pub closes : ℕ → Order → Bool
closes client (Close other) = nat_eq other client
closes client order = false

-- what an event shows a client: the line for an effect of a request, as its gate writes it
abbrev pub shown_by : Settings → Event → List ℕ
shown_by s (Learns effect nick) = (given_effect s effect).reply
shown_by s event = []

-- all that it is shown, in order
abbrev pub all_shown : Settings → List Happening → List ℕ
all_shown s happenings = flat_map (λ (h : Happening). shown_by s h.event) happenings

-- What was ordered meanwhile writes exactly this to a client, and does not close it.
pub record WritesJust (client : ℕ) (bytes : List ℕ) (before after : Ordered) : Type 0 where
  pub told : List Order
  pub orders : after ≡ ordered before told
  pub written : written_to client told ≡ bytes
  pub is_open : list_any (closes client) told ≡ false

-- Whatever happens to a client that is leaving, as long as it is connected: all that it is shown is written to it, in
-- order, and nothing else, and it is not closed.
abbrev pub LeaversAreShownAll : Type 0
LeaversAreShownAll =
    (happenings : List Happening) (s : Settings) (calls : List Call) (since : Timer) (old new : Client) (before after : Ordered)
    → HappenAll happenings old before new after → Stands s calls old.gate
    → old.leaving ≡ Some since → new.is_gone ≡ false
    → WritesJust old.origin.2 (all_shown s happenings) before after
