-- What a driver begins with, and a client that connects.
use Rattle.std.specs.Prelude.{◌≡◌, ◌+◌, ◌-◌, ℕ, Bool, false, nat_lt, if◌then◌else◌, List, [], ◌∷◌, Option, Some, None, slice_get}
use Rattle.client_gate.specs.Calls.{Held, Stands}
use Rattle.client_gate.specs.Made.{made}
use Rattle.wire_bytes.specs.declared.origin.Origin.{Origin}
use Rattle.driver.specs.Absent.{none_absent}
use Rattle.driver.specs.Keys.{no_keys}
use Rattle.driver.specs.declared.client.Client.{Client}
use Rattle.driver.specs.declared.clients.Clients.{Clients}
use Rattle.driver.specs.declared.node_monitor.NodeMonitor.{NodeMonitor}
use Rattle.driver.specs.declared.driver.Driver.{Driver}
use Rattle.driver.specs.declared.level.Level.TheVariants.{Roomy}
use Rattle.driver.specs.declared.link.Stage.TheVariants.{Idle}
use Rattle.driver.specs.declared.order.Order.{Order}
use Rattle.driver.specs.declared.settings.Settings.{Settings}
use Rattle.driver.specs.Monitors.{at, new_monitor}
use Rattle.driver.specs.Driving.{changed_at, orders_at}
use Rattle.driver.specs.Retiring.{no_retirements, with_seen}
use Rattle.driver.specs.Hearing.{turned_away, turned_away_news}
use Rattle.driver.specs.Absences.{boot_open}
use Rattle.driver.specs.Guarding.{new_guard}
use Rattle.driver.specs.Links.{first_backoff}
use Rattle.driver.specs.Rosters.{IsNew, client_at}
use Rattle.driver.specs.Outgoing.{nothing_waits}
use Rattle.driver.specs.Telling.{none_told}
use Rattle.wire_bytes.specs.Limits.{number_limit}

-- a new monitor for each of the seven nodes, in order
abbrev pub new_monitors : Settings → ℕ → List NodeMonitor
new_monitors settings now =
    new_monitor settings now 1
    ∷ new_monitor settings now 2
    ∷ new_monitor settings now 3
    ∷ new_monitor settings now 4
    ∷ new_monitor settings now 5
    ∷ new_monitor settings now 6
    ∷ new_monitor settings now 7
    ∷ []

-- A new driver: nothing is known of any node, there is no client and no connection, and nothing is ordered.
pub record IsNewDriver (settings : Settings) (now : ℕ) (new : Driver) : Type 0 where
  pub settings_are : new.settings ≡ settings
  pub monitors : new.monitors ≡ new_monitors settings now
  pub retirements : new.retirements.all ≡ no_retirements
  pub clients : (number : ℕ) → client_at new.clients number ≡ None
  pub numbered : new.numbered ≡ 0
  pub guard : new.guard ≡ new_guard now
  pub stage : new.link.stage ≡ Idle (at now) 0
  pub backoff : new.link.backoff ≡ first_backoff
  pub ended : new.link.ended ≡ None
  pub waiting : new.link.waiting ≡ nothing_waits
  pub keys : new.link.keys ≡ no_keys
  pub absent : new.link.absent ≡ none_absent
  pub given : new.given ≡ None
  pub level : new.level ≡ Roomy
  pub pace : new.pace ≡ record { burst = settings.flood_burst; line_ms = settings.flood_ms; free_at = 0 }
  pub unheard : new.unheard ≡ 0
  pub dropping : new.dropping ≡ None
  pub is_not_short : new.is_short ≡ false
  pub going_on : new.going_on ≡ at now
  pub ran : new.ran ≡ at now
  pub orders : new.orders ≡ none_told

-- the run in which a node takes clients, if there is one
abbrev pub boot_in : Option NodeMonitor → Option ℕ
boot_in None = None
boot_in (Some monitor) = boot_open monitor

-- the run in which this node takes clients, if it does; nodes count from 1
abbrev pub boot_at : List NodeMonitor → ℕ → Option ℕ
boot_at monitors node = boot_in (slice_get monitors (node - 1))

-- the number of a client that connects to a node with this run: one more than the last, if numbers are left
abbrev pub number_if : Option ℕ → ℕ → Option ℕ
number_if None last = None
number_if (Some boot) last = if nat_lt last number_limit then Some (last + 1) else None

-- the number of a client that connects to this node: none if the node takes no clients, or if no number is left
abbrev pub next_number : List NodeMonitor → ℕ → ℕ → Option ℕ
next_number monitors node last = number_if (boot_at monitors node) last

-- the number of the last client then
abbrev pub last_number : ℕ → Option ℕ → ℕ
last_number last None = last
last_number last (Some number) = number

-- A client of this origin has connected; its gate is a new one of this password and this nick.
pub record Arrives (origin : Origin) (password nick : List ℕ) (now : ℕ) (new : Clients) : Type 0 where
  pub client : Client
  pub is_there : client_at new origin.2 ≡ Some client
  pub held : Held
  pub is_new : IsNew origin held nick now client
  pub is_made : Stands (made origin password nick) [] held

-- a client has connected to a node that is up in this run, if it got a number
abbrev pub ArrivesBy : Option ℕ → Option ℕ → ℕ → List ℕ → List ℕ → ℕ → Clients → Clients → Type 0
ArrivesBy None number node password nick now old new = new ≡ old
ArrivesBy (Some boot) None node password nick now old new = new ≡ old
ArrivesBy (Some boot) (Some number) node password nick now old new = Arrives (node, boot, number) password nick now new

-- a client has connected to this node, if it got a number; if the node is not up nobody has
abbrev pub ArrivesIf : List NodeMonitor → Option ℕ → ℕ → List ℕ → List ℕ → ℕ → Clients → Clients → Type 0
ArrivesIf monitors number node password nick now old new = ArrivesBy (boot_at monitors node) number node password nick now old new

-- the monitors after a client connected to a node with this run, if it is up: the run was seen, if the client was
-- taken; if the node is not up, the client was turned away
abbrev pub visited : Option ℕ → Bool → List NodeMonitor → ℕ → List NodeMonitor
visited None taken monitors node = changed_at turned_away monitors node
visited (Some boot) taken monitors node = if taken then changed_at (with_seen boot) monitors node else monitors

-- the monitors after a client connected to this node, given how many clients had been numbered before it
abbrev pub monitors_behind : List NodeMonitor → ℕ → ℕ → List NodeMonitor
monitors_behind monitors node numbered = visited (boot_at monitors node) (nat_lt numbered number_limit) monitors node

-- the first client that is turned away since the node was up is logged
abbrev pub turned_away_by : Option ℕ → List NodeMonitor → ℕ → List Order
turned_away_by None monitors node = orders_at turned_away_news monitors node
turned_away_by (Some boot) monitors node = []

-- what is logged when a client connects to this node: that it was turned away, if it is the first
abbrev pub turned_away_at : List NodeMonitor → ℕ → List Order
turned_away_at monitors node = turned_away_by (boot_at monitors node) monitors node
