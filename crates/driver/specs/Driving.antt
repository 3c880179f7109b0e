-- What happens as time passes, and how each node is driven.
use Rattle.std.specs.Prelude.{◌≡◌, ◌++◌, ℕ, zero, suc, ◌+◌, ◌-◌, ◌&&◌, Bool, true, false, codes, if◌then◌else◌, List, [], ◌∷◌, Option, Some, None, slice_get, slice_set}
use Rattle.std.specs.BTreeMap.{keys}
use Rattle.std.specs.Global.{Vec}
use Rattle.std.specs.Option.{is_some}
use Rattle.wire_bytes.specs.declared.moment.Moment.{Moment}
use Rattle.node_notes.specs.declared.note.Note.TheVariants as note
use Rattle.driver.specs.declared.node_monitor.NodeMonitor.{NodeMonitor}
use Rattle.driver.specs.declared.driver.Driver.{Driver}
use Rattle.driver.specs.declared.retirement.Retirement.{Retirement}
use Rattle.driver.specs.declared.news.Ending.{Ending}
use Rattle.driver.specs.declared.news.Ending.TheVariants.{LedNoMore, Silent}
use Rattle.driver.specs.declared.order.Order.{Order}
use Rattle.driver.specs.declared.order.Order.TheVariants.{Connect, Disconnect, Send, Submit}
use Rattle.driver.specs.declared.settings.Settings.{Settings}
use Rattle.driver.specs.declared.link.Stage.TheVariants.{Connecting}
use Rattle.driver.specs.Dropping.{EndsDrop}
use Rattle.driver.specs.Crowds.{DismissEach, TickEach, Told, told as crowd}
use Rattle.driver.specs.Monitors.{claim_at, claim_due, monitor_behind, monitor_claimed, note_at, told}
use Rattle.driver.specs.Retiring.{restart_at, restart_behind}
use Rattle.driver.specs.Leading.{IsLeader, is_older, is_that}
use Rattle.driver.specs.Hearing.{boot_up}
use Rattle.driver.specs.Links.{IsLost, backoff_behind, ended_behind, ending, idle_behind, is_open, lingering, may_connect, node_of, status_at, waiting_behind}
use Rattle.driver.specs.Servers.{AsksForWord, is_quiet, is_silent}
use Rattle.driver.specs.Rounds.{GoesRound, Round, round}
use Rattle.driver.specs.Telling.{Ordered, ordered}
use Rattle.driver.specs.Waking.{awake}
use Rattle.driver.specs.Writing.{WriteLines, may_claim}
use Rattle.driver.specs.declared.driver.writing.TheConstants.{MOST_AT_ONCE}

-- the monitors, with that of this node changed
abbrev pub changed_if : (NodeMonitor → NodeMonitor) → List NodeMonitor → ℕ → Option NodeMonitor → List NodeMonitor
changed_if change monitors index None = monitors
changed_if change monitors index (Some monitor) = slice_set monitors index (change monitor)

-- the monitors, with that of this node changed, if there is one; nodes count from 1
abbrev pub changed_at : (NodeMonitor → NodeMonitor) → List NodeMonitor → ℕ → List NodeMonitor
changed_at change monitors node = changed_if change monitors (node - 1) (slice_get monitors (node - 1))

-- the orders for a monitor, if there is one
abbrev pub orders_of : (NodeMonitor → List Order) → Option NodeMonitor → List Order
orders_of orders None = []
orders_of orders (Some monitor) = orders monitor

-- the orders for this node's monitor, if there is one; nodes count from 1
abbrev pub orders_at : (NodeMonitor → List Order) → List NodeMonitor → ℕ → List Order
orders_at orders monitors node = orders_of orders (slice_get monitors (node - 1))

-- a node's monitor after the note of the clock
abbrev pub clocked : Ordered → Settings → ℕ → NodeMonitor → NodeMonitor
clocked orders settings now monitor = monitor_behind orders monitor now (note_at monitor settings now)

-- what is ordered then
abbrev pub clock_told : Ordered → Settings → ℕ → NodeMonitor → Ordered
clock_told orders settings now monitor = ordered orders (told monitor.id (note_at monitor settings now))

-- and after the note of the retirement of its earlier runs
abbrev pub ticked : Ordered → List (Option Retirement) → Settings → ℕ → NodeMonitor → NodeMonitor
ticked orders retirements settings now monitor =
    let behind = clocked orders settings now monitor in
    restart_behind (clock_told orders settings now monitor) behind (restart_at retirements behind)

-- the orders of both
abbrev pub tick_orders : Ordered → List (Option Retirement) → Settings → ℕ → NodeMonitor → List Order
tick_orders orders retirements settings now monitor =
    let behind = clocked orders settings now monitor in
    told monitor.id (note_at monitor settings now) ++ told behind.id (restart_at retirements behind)

-- The clock asked a node to send, to ask for votes or to start again; and a node that lives on in a retired run was
-- asked to start again, unless it just was.
pub record TicksMonitor (now node : ℕ) (old new : Driver) : Type 0 where
  pub monitors : new.monitors ≡ changed_at (ticked old.orders old.retirements.all old.settings now) old.monitors node
  pub orders : new.orders ≡ ordered old.orders (orders_at (tick_orders old.orders old.retirements.all old.settings now) old.monitors node)
  pub rest : new ≡ record old { monitors = new.monitors; orders = new.orders }

-- the node of a connection that is told of the end, if its uplink gave the end and the node is up
abbrev pub closed_of : List NodeMonitor → Option ℕ → Bool → Option ℕ
closed_of monitors None lost = None
closed_of monitors (Some node) lost = if lost && is_some (boot_up (status_at monitors node)) then Some node else None

-- that node, if there is one, is told that the session closed
abbrev pub closed_orders : Option ℕ → List Order
closed_orders None = []
closed_orders (Some node) = Submit node note.Closed ∷ []

-- The connection to the server is gone: the reason is logged, and its node is told if it had a session and is up.
pub record Ends (now : ℕ) (why : Ending) (old new : Driver) : Type 0 where
  pub lost : Bool
  pub is_lost : IsLost old.link.stage lost
  pub orders :
      new.orders ≡ ordered old.orders (ending old.link.stage why ++ closed_orders (closed_of old.monitors (node_of old.link.stage) lost))
  pub stage : new.link.stage ≡ idle_behind old.link.stage old.link.backoff now
  pub backoff : new.link.backoff ≡ backoff_behind old.link.stage why old.link.backoff now
  pub ended : new.link.ended ≡ ended_behind old.link.stage why old.link.ended
  pub waiting : new.link.waiting ≡ waiting_behind old.link.stage old.link.waiting
  pub keys : new.link.keys ≡ old.link.keys
  pub absent : new.link.absent ≡ old.link.absent
  pub rest : new ≡ record old { orders = new.orders; link = new.link }

-- The connection to the server is closed, and then it is gone.
pub record Leaves (now : ℕ) (why : Ending) (old new : Driver) : Type 0 where
  pub closed : Driver
  pub orders : closed.orders ≡ ordered old.orders (Disconnect ∷ [])
  pub rest : closed ≡ record old { orders = closed.orders }
  pub ends : Ends now why closed new

-- The connection to the server is left if this is so, and else nothing changes.
abbrev pub LeavesIf : Bool → ℕ → Ending → Driver → Driver → Type 0
LeavesIf false now why old new = new ≡ old
LeavesIf true now why old new = Leaves now why old new

-- The server is sent a PING if it is quiet.
pub record AsksServer (now : ℕ) (old new : Driver) : Type 0 where
  pub asks : AsksForWord (is_quiet old.link.stage now) now old.link.stage old.orders new.link.stage new.orders
  pub rest : new ≡ record old { orders = new.orders; link = record old.link { stage = new.link.stage } }

-- what a server is sent when the session is over
abbrev pub quit_line : List ℕ
quit_line = codes "QUIT" ++ 13 ∷ 10 ∷ []

-- The server is told that the session is over.
pub record SaysQuit (old new : Driver) : Type 0 where
  pub bytes : Vec ℕ
  pub are : bytes.items ≡ quit_line
  pub orders : new.orders ≡ ordered old.orders (Send bytes ∷ [])
  pub rest : new ≡ record old { orders = new.orders }

-- The session is over, since its node no longer leads: the server is told so, and has time to close the connection.
pub record Quits (now : ℕ) (old new : Driver) : Type 0 where
  pub said : Driver
  pub says : SaysQuit old said
  pub ended : Driver
  pub ends : Ends now LedNoMore said ended
  pub rest : new ≡ record ended { link = record ended.link { stage = lingering ended.link.stage } }

-- An open connection is left like this, and one that is not open yet is closed.
abbrev pub QuitsIf : Bool → ℕ → Driver → Driver → Type 0
QuitsIf false now old new = Leaves now LedNoMore old new
QuitsIf true now old new = Quits now old new

-- The connection of an older leader is left, if it is one, and else nothing changes.
abbrev pub LeavesOlder : Bool → ℕ → Driver → Driver → Type 0
LeavesOlder false now old new = new ≡ old
LeavesOlder true now old new = QuitsIf (is_open old.link.stage) now old new

-- The leader of the greatest term claims its next line, if one may be claimed.
pub record Claims (now node : ℕ) (old new : Driver) : Type 0 where
  pub monitors :
      new.monitors
      ≡ changed_at (λ monitor. monitor_claimed old.orders monitor now (may_claim old now) (claim_due monitor old.settings now)) old.monitors node
  pub orders : new.orders ≡ ordered old.orders (orders_at (λ monitor. told monitor.id (claim_at monitor old.settings now (may_claim old now))) old.monitors node)
  pub rest : new ≡ record old { monitors = new.monitors; orders = new.orders }

-- The server is connected to for a node, if there is no connection and one may be tried.
pub record Connects (now node : ℕ) (old new : Driver) : Type 0 where
  pub orders : new.orders ≡ ordered old.orders (if may_connect old.link.stage now then Connect ∷ [] else [])
  pub stage : new.link.stage ≡ (if may_connect old.link.stage now then Connecting node else old.link.stage)
  pub rest : new ≡ record old { orders = new.orders; link = record old.link { stage = new.link.stage } }

-- For the leader of the greatest term what waits goes out; then it claims a line, and the server is connected to for
-- it; a drop ends if no line is left to claim.
pub record Serves (now node : ℕ) (old new : Driver) : Type 0 where
  pub written : Driver
  pub writes : WriteLines MOST_AT_ONCE now node old written
  pub claimed : Driver
  pub claims : Claims now node written claimed
  pub connected : Driver
  pub connects : Connects now node claimed connected
  pub ends : EndsDrop node connected new

-- For any other node nothing is done.
abbrev pub ServesIf : Bool → ℕ → ℕ → Driver → Driver → Type 0
ServesIf false now node old new = new ≡ old
ServesIf true now node old new = Serves now node old new

-- A node ticks: it gets its notes; the connection to the server is left if it belongs to another node than the leader
-- of the greatest term; and if this node is that leader, it is served.
pub record TicksNode (now node : ℕ) (old new : Driver) : Type 0 where
  pub told : Driver
  pub ticks : TicksMonitor now node old told
  pub leader : Option ℕ
  pub is_leader : IsLeader told.monitors leader
  pub left : Driver
  pub leaves : LeavesOlder (is_older (node_of told.link.stage) leader) now told left
  pub serves : ServesIf (is_that leader node) now node left new

-- A number of nodes tick in turn, from this one on.
unfoldable pub TickNodes : ℕ → ℕ → ℕ → Driver → Driver → Type 0
TickNodes zero now node old new = new ≡ old
TickNodes (suc count) now node old new =
    (behind : Driver) × TicksNode now node old behind × TickNodes count now (node + 1) behind new

-- the retirements of all nodes, and the orders, as a driver has them
abbrev pub round_of : Driver → Round
round_of driver = round driver.retirements.all driver.orders

-- the clients, and what was ordered, as a driver has them
abbrev pub told_of : Driver → Told
told_of driver = crowd driver.clients driver.orders

-- The bouncer is about to end: each client is to leave.
pub record Dismisses (now : ℕ) (at : Moment) (old new : Driver) : Type 0 where
  pub clients : DismissEach at now (keys old.clients.all) (told_of old) (told_of new)
  pub rest : new ≡ record old { clients = new.clients; orders = new.orders }

-- Time passes. The driver is awake; a server that is quiet is sent a PING, and the connection to one that is silent is
-- left; then each client ticks, in the order of their numbers, and then each node; retirements come last.
pub record Ticks (now : ℕ) (at : Moment) (old new : Driver) : Type 0 where
  pub pinged : Driver
  pub pings : AsksServer now (awake now old) pinged
  pub left : Driver
  pub leaves : LeavesIf (is_silent pinged.link.stage now) now Silent pinged left
  pub served : Driver
  pub clients : TickEach at left.settings.timeout_ms now left.monitors (keys left.clients.all) (told_of left) (told_of served)
  pub is_served : served ≡ record left { clients = served.clients; orders = served.orders }
  pub asked : Driver
  pub nodes : TickNodes 7 now 1 served asked
  pub retired : GoesRound asked.settings now asked.monitors (round_of asked) (round_of new)
  pub rest : new ≡ record asked { retirements = new.retirements; orders = new.orders }
