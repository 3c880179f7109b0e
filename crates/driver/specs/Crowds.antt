-- What happens to all clients, one after another.
use Rattle.std.specs.Prelude.{◌≡◌, ◌&&◌, ℕ, Bool, true, false, nat_eq, nat_lt, List, [], ◌∷◌, Option, Some, None}
use Rattle.client_gate.specs.declared.settings.Settings.{Settings}
use Rattle.client_gate.specs.Calls.{Call, Stands, gate}
use Rattle.client_gate.specs.Gates.{last_request}
use Rattle.wire_bytes.specs.declared.moment.Moment.{Moment}
use Rattle.wire_bytes.specs.declared.origin.Origin.{Origin}
use Rattle.driver.specs.declared.client.Client.{Client}
use Rattle.driver.specs.declared.absence.Absence.{Absence}
use Rattle.driver.specs.declared.clients.Clients.{Clients}
use Rattle.driver.specs.declared.node_monitor.NodeMonitor.{NodeMonitor}
use Rattle.driver.specs.Asking.{HearsNode}
use Rattle.driver.specs.Clients.{parting_unless}
use Rattle.driver.specs.Leaving.{IsDismissed, is_overdue}
use Rattle.driver.specs.Outages.{IsToldOff}
use Rattle.driver.specs.Rosters.{AreOthersSame, IsReadOf, Serves, client_at}
use Rattle.driver.specs.Serving.{IsLost}
use Rattle.driver.specs.Silence.{IsKept, IsSentOff, is_to_go, waited}
use Rattle.driver.specs.Telling.{Ordered, ordered}

-- the clients, and what was ordered
pub record Told : Type 0 where
  pub clients : Clients
  pub orders : Ordered

-- these clients and these orders, as one
abbrev pub told : Clients → Ordered → Told
told clients orders = record { clients = clients; orders = orders }

-- Time passed for a client that was read or was not: one that has been leaving for too long, or is too slow, is closed.
pub record Ticks (reads : Bool) (timeout now : ℕ) (at : Moment) (s : Settings) (calls : List Call) (old : Client) (before : Ordered) (new : Client) (after : Ordered) : Type 0 where
  pub overdue : is_overdue old now ≡ true → IsLost now at s calls old before new after
  pub slow : is_overdue old now ≡ false → is_to_go (waited reads now old) now ≡ true → IsSentOff now at s calls (waited reads now old) before new after
  pub kept : is_overdue old now ≡ false → is_to_go (waited reads now old) now ≡ false → IsKept timeout now at s calls (waited reads now old) before new after

-- Time passes for a client, which by these monitors is read or not.
pub record TicksRead (timeout now : ℕ) (at : Moment) (monitors : List NodeMonitor) (s : Settings) (calls : List Call) (old : Client) (before : Ordered) (new : Client) (after : Ordered) : Type 0 where
  pub reads : Bool
  pub is_read : IsReadOf reads before monitors (Some old)
  pub ticks : Ticks reads timeout now at s calls old before new after

-- Nothing changed for the clients, and nothing was ordered.
abbrev pub IsSame : Told → Told → Type 0
IsSame old new = (new.clients ≡ old.clients) × (new.orders ≡ old.orders)

-- Time passed for the client of this number, if there is one; all others are unchanged.
pub record TicksClient (at : Moment) (timeout now : ℕ) (monitors : List NodeMonitor) (number : ℕ) (old new : Told) : Type 0 where
  pub others : AreOthersSame number old.clients new.clients
  pub nobody : client_at old.clients number ≡ None → IsSame old new
  pub served :
      Serves
      (λ c. client_at old.clients number ≡ Some c)
      (λ s calls c client. TicksRead timeout now at monitors s calls c old.orders client new.orders)
      number new.clients

-- time passes for the clients of these numbers, in this order
unfoldable pub TickEach : Moment → ℕ → ℕ → List NodeMonitor → List ℕ → Told → Told → Type 0
TickEach at timeout now monitors [] old new = new ≡ old
TickEach at timeout now monitors (number ∷ numbers) old new =
    (behind : Told) × TicksClient at timeout now monitors number old behind × TickEach at timeout now monitors numbers behind new

-- a client of a run of this node below this boot
abbrev pub is_below : Origin → ℕ → ℕ → Bool
is_below origin node boot = nat_eq origin.0 node && nat_lt origin.1 boot

-- there is a client, and it belongs to a run of this node below this boot
abbrev pub is_one_below : Option Client → ℕ → ℕ → Bool
is_one_below None node boot = false
is_one_below (Some client) node boot = is_below client.origin node boot

-- A run of a node began, with this boot: the client of this number, if it belongs to an earlier one, is closed and
-- forgotten; all others are unchanged.
pub record LeavesClient (at : Moment) (node boot number : ℕ) (old new : Told) : Type 0 where
  pub others : AreOthersSame number old.clients new.clients
  pub nobody : client_at old.clients number ≡ None → IsSame old new
  pub stays : (c : Client) → client_at old.clients number ≡ Some c → is_below c.origin node boot ≡ false → IsSame old new
  pub leaves : (c : Client) → client_at old.clients number ≡ Some c → is_below c.origin node boot ≡ true → client_at new.clients number ≡ None
  pub orders :
      (s : Settings) (calls : List Call) (c : Client) → client_at old.clients number ≡ Some c → is_below c.origin node boot ≡ true
      → Stands s calls c.gate → new.orders ≡ ordered old.orders (parting_unless c.is_gone c.is_attached c.origin at (last_request (gate s calls)))

-- for the clients of these numbers, in this order
unfoldable pub LeaveEach : Moment → ℕ → ℕ → List ℕ → Told → Told → Type 0
LeaveEach at node boot [] old new = new ≡ old
LeaveEach at node boot (number ∷ numbers) old new =
    (behind : Told) × LeavesClient at node boot number old behind × LeaveEach at node boot numbers behind new

-- a client of this node
abbrev pub is_of : Origin → ℕ → Bool
is_of origin node = nat_eq origin.0 node

-- there is a client, and it belongs to this node
abbrev pub is_one_of : Option Client → ℕ → Bool
is_one_of None node = false
is_one_of (Some client) node = is_of client.origin node

-- A node serves nobody: the client of this number, if it belongs to that node, gets the reason and is forgotten; all
-- others are unchanged.
pub record CutsClient (why : Absence) (node number : ℕ) (old new : Told) : Type 0 where
  pub others : AreOthersSame number old.clients new.clients
  pub nobody : client_at old.clients number ≡ None → IsSame old new
  pub stays : (c : Client) → client_at old.clients number ≡ Some c → is_of c.origin node ≡ false → IsSame old new
  pub leaves : (c : Client) → client_at old.clients number ≡ Some c → is_of c.origin node ≡ true → client_at new.clients number ≡ None
  pub told : (c : Client) → client_at old.clients number ≡ Some c → is_of c.origin node ≡ true → IsToldOff why c old.orders new.orders

-- for the clients of these numbers, in this order
unfoldable pub CutEach : Absence → ℕ → List ℕ → Told → Told → Type 0
CutEach why node [] old new = new ≡ old
CutEach why node (number ∷ numbers) old new =
    (behind : Told) × CutsClient why node number old behind × CutEach why node numbers behind new

-- A node reported what may be lost, and whether it refused a turn: the client of this number hears it, if it belongs to
-- that node; all others are unchanged.
pub record WordsClient (at : Moment) (now node lost : ℕ) (refused : Bool) (number : ℕ) (old new : Told) : Type 0 where
  pub others : AreOthersSame number old.clients new.clients
  pub nobody : client_at old.clients number ≡ None → IsSame old new
  pub stays : (c : Client) → client_at old.clients number ≡ Some c → is_of c.origin node ≡ false → IsSame old new
  pub served :
      Serves
      (λ c. (client_at old.clients number ≡ Some c) × (is_of c.origin node ≡ true))
      (λ s calls c client. HearsNode lost refused now at s calls c old.orders client new.orders)
      number new.clients

-- for the clients of these numbers, in this order
unfoldable pub WordEach : Moment → ℕ → ℕ → ℕ → Bool → List ℕ → Told → Told → Type 0
WordEach at now node lost refused [] old new = new ≡ old
WordEach at now node lost refused (number ∷ numbers) old new =
    (behind : Told)
    × WordsClient at now node lost refused number old behind × WordEach at now node lost refused numbers behind new

-- The client of this number is to leave, if there is one; all others are unchanged.
pub record DismissesClient (at : Moment) (now number : ℕ) (old new : Told) : Type 0 where
  pub others : AreOthersSame number old.clients new.clients
  pub nobody : client_at old.clients number ≡ None → IsSame old new
  pub served :
      Serves
      (λ c. client_at old.clients number ≡ Some c)
      (λ s calls c client. IsDismissed now at s calls c old.orders client new.orders)
      number new.clients

-- for the clients of these numbers, in this order
unfoldable pub DismissEach : Moment → ℕ → List ℕ → Told → Told → Type 0
DismissEach at now [] old new = new ≡ old
DismissEach at now (number ∷ numbers) old new =
    (behind : Told) × DismissesClient at now number old behind × DismissEach at now numbers behind new
