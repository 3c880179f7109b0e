-- How the connection to the server is asked for, used and left, over all calls.
use Rattle.std.specs.Prelude.{◌≡◌, ◌-◌, ℕ, Bool, nat_le, if◌then◌else◌, List, [], ◌∷◌, Option, Some, None}
use Rattle.irc_line.specs.Names.{same_bytes}
use Rattle.driver.specs.declared.driver.Driver.{Driver}
use Rattle.driver.specs.declared.news.Ending.{Ending}
use Rattle.driver.specs.declared.news.Ending.TheVariants.{LedNoMore}
use Rattle.driver.specs.declared.news.News.{News}
use Rattle.driver.specs.declared.news.News.TheVariants.{Closed, Unopened}
use Rattle.driver.specs.declared.order.Order.{Order}
use Rattle.driver.specs.declared.order.Order.TheVariants.{Connect, Disconnect, Log, Send}
use Rattle.driver.specs.Calls.{Call, End, Hear, Led, Step, Tick}
use Rattle.driver.specs.Driving.{quit_line}

-- The state of the connection, as calls and orders show it: there is none; one was asked for; one was asked for, and
-- the last order is a QUIT; or its session has been over since this moment, and the server is to close it.
pub data Connection : Type 0 where
  Gone : Connection
  Used : Connection
  Told : Connection
  Over : ℕ → Connection

-- after an order to connect: only if there is no connection
abbrev pub asked_behind : Connection → Option Connection
asked_behind Gone = Some Used
asked_behind Used = None
asked_behind Told = None
asked_behind (Over since) = None

-- after bytes to the server: only if there is a connection whose session is not over
abbrev pub said_behind : Bool → Connection → Option Connection
said_behind quits Gone = None
said_behind quits Used = Some (if quits then Told else Used)
said_behind quits Told = Some (if quits then Told else Used)
said_behind quits (Over since) = None

-- after an order to close it: if its session is over, only once the server had a second to close it
abbrev pub closed_behind : ℕ → Connection → Option Connection
closed_behind now Gone = None
closed_behind now Used = Some Gone
closed_behind now Told = Some Gone
closed_behind now (Over since) = if nat_le 1000 (now - since) then Some Gone else None

-- after the news that its node no longer leads: only if it was closed before, or the server was just told
abbrev pub over_behind : ℕ → Connection → Option Connection
over_behind now Gone = Some Gone
over_behind now Used = None
over_behind now Told = Some (Over now)
over_behind now (Over since) = None

-- after any other order
abbrev pub kept : Connection → Connection
kept Gone = Gone
kept Used = Used
kept Told = Used
kept (Over since) = Over since

-- after the news that a session ended, or was not given, and why
abbrev pub ended_behind : ℕ → Ending → Connection → Option Connection
ended_behind now LedNoMore connection = over_behind now connection
ended_behind now why connection = Some (kept connection)

-- after any news
abbrev pub news_behind : ℕ → News → Connection → Option Connection
news_behind now (Unopened node why) connection = ended_behind now why connection
news_behind now (Closed node why) connection = ended_behind now why connection
news_behind now news connection = Some (kept connection)

-- after an order; there is none if it may not be ordered
abbrev pub behind : ℕ → Order → Connection → Option Connection
behind now Connect connection = asked_behind connection
behind now (Send bytes) connection = said_behind (same_bytes bytes.items quit_line) connection
behind now Disconnect connection = closed_behind now connection
behind now (Log news) connection = news_behind now news connection
behind now order connection = Some (kept connection)

-- each of these orders may be ordered at this moment, and they lead from the one to the other
unfoldable pub Leads : ℕ → Connection → List Order → Connection → Type 0
Leads now connection [] last = last ≡ connection
Leads now connection (order ∷ more) last = (next : Connection) × (behind now order connection ≡ Some next) × Leads now next more last

-- the moment of a report, or at which time passes
abbrev pub moment_of : Call → ℕ
moment_of (Hear now at node status effects progress refused) = now
moment_of (Tick now at) = now
moment_of call = 0

-- the state of the connection as a call is made: if the call reports that it is gone, it is
abbrev pub met_by : Call → Connection → Connection
met_by (End now why) connection = Gone
met_by call connection = connection

-- each order of these calls may be ordered
unfoldable pub AllLead : Connection → List Step → Type 0
AllLead connection [] = Unit {0}
AllLead connection (step ∷ more) =
    (next : Connection) × Leads (moment_of step.call) (met_by step.call connection) step.told next × AllLead next more

-- Over every list of calls of a new driver: one connection is asked for at a time, and nothing is sent if there is
-- none. If its node no longer leads, it was closed before, or the server was just sent a QUIT. After that QUIT nothing
-- is sent, and no next connection is asked for, until the server closed this one, or it was closed here, a second later
-- at the earliest.
abbrev pub SessionsEndFirst : Type 0
SessionsEndFirst = (steps : List Step) (driver : Driver) → Led steps driver → AllLead Gone steps
