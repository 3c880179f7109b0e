-- In which order a node gets the notes of a session, over all calls.
use Rattle.std.specs.Prelude.{◌≡◌, ℕ, true, is_some, nat_eq, if◌then◌else◌, List, [], ◌∷◌, Option, Some, None}
use Rattle.bouncer_tower.specs.Bodies.{TowerBody}
use Rattle.buffer_commands.specs.declared.wire_line.WireLine.{WireLine}
use Rattle.node_notes.specs.declared.note.Note.{Note}
use Rattle.node_notes.specs.declared.note.Note.TheVariants as note
use Rattle.driver.specs.declared.driver.Driver.{Driver}
use Rattle.driver.specs.declared.link.Session.{Session}
use Rattle.driver.specs.declared.link.Stage.TheVariants.{Open}
use Rattle.driver.specs.declared.news.Ending.{Ending}
use Rattle.driver.specs.declared.news.News.{News}
use Rattle.driver.specs.declared.news.News.TheVariants.{Closed, Unopened}
use Rattle.driver.specs.declared.order.Order.{Order}
use Rattle.driver.specs.declared.order.Order.TheVariants.{Connect, Log, Submit}
use Rattle.driver.specs.Calls.{Led, Step}
use Rattle.driver.specs.Counting.{all_told}
use Rattle.driver.specs.Driving.{Ends}
use Rattle.driver.specs.Hearing.{boot_up}
use Rattle.driver.specs.Links.{end_of, status_at}
use Rattle.driver.specs.Telling.{ordered}

-- How far a session is, as orders show it: there is no connection; one was asked for, and no node was told of a session
-- there; this node was told that the session opened; or the last order logs that the connection of this node ended.
pub data Phase : Type 0 where
  Gone : Phase
  Asked : Phase
  Given : ℕ → Phase
  Ended : ℕ → Phase

-- if two nodes are the same one
abbrev pub if_same : ℕ → ℕ → Phase → Option Phase
if_same node own phase = if nat_eq own node then Some phase else None

-- after an order to connect: only if there is no connection
abbrev pub asked_behind : Phase → Option Phase
asked_behind Gone = Some Asked
asked_behind Asked = None
asked_behind (Given own) = None
asked_behind (Ended own) = Some Asked

-- after a node is told that the session opened: only on a connection where no node was told so
abbrev pub opened_behind : ℕ → Phase → Option Phase
opened_behind node Gone = None
opened_behind node Asked = Some (Given node)
opened_behind node (Given own) = None
opened_behind node (Ended own) = None

-- after a node gets a line of the session: only if it was told that the session opened
abbrev pub heard_behind : ℕ → Phase → Option Phase
heard_behind node Gone = None
heard_behind node Asked = None
heard_behind node (Given own) = if_same node own (Given own)
heard_behind node (Ended own) = None

-- after a node is told that the session closed: only right after it is logged that the connection of this node ended
abbrev pub closed_behind : ℕ → Phase → Option Phase
closed_behind node Gone = None
closed_behind node Asked = None
closed_behind node (Given own) = None
closed_behind node (Ended own) = if_same node own Gone

-- after it is logged that the session of a node is over: only if that node was told that it opened
abbrev pub over_behind : ℕ → Phase → Option Phase
over_behind node Gone = None
over_behind node Asked = None
over_behind node (Given own) = if_same node own (Ended node)
over_behind node (Ended own) = None

-- after it is logged that the connection of a node gave no session: only if no node was told that one opened
abbrev pub missed_behind : ℕ → Phase → Option Phase
missed_behind node Gone = None
missed_behind node Asked = Some (Ended node)
missed_behind node (Given own) = None
missed_behind node (Ended own) = None

-- after any other order
abbrev pub kept : Phase → Phase
kept Gone = Gone
kept Asked = Asked
kept (Given own) = Given own
kept (Ended own) = Gone

-- after a note to a node
abbrev pub note_behind : ℕ → Note TowerBody WireLine → Phase → Option Phase
note_behind node note.Opened phase = opened_behind node phase
note_behind node (note.Heard at line) phase = heard_behind node phase
note_behind node note.Closed phase = closed_behind node phase
note_behind node came phase = Some (kept phase)

-- after news
abbrev pub news_behind : News → Phase → Option Phase
news_behind (Unopened node why) phase = missed_behind node phase
news_behind (Closed node why) phase = over_behind node phase
news_behind news phase = Some (kept phase)

-- after an order; there is none if it may not be ordered
abbrev pub behind : Order → Phase → Option Phase
behind Connect phase = asked_behind phase
behind (Submit node came) phase = note_behind node came phase
behind (Log news) phase = news_behind news phase
behind order phase = Some (kept phase)

-- each of these orders may be ordered, and they lead from the one to the other
unfoldable pub Leads : Phase → List Order → Phase → Type 0
Leads phase [] last = last ≡ phase
Leads phase (order ∷ more) last = (next : Phase) × (behind order phase ≡ Some next) × Leads next more last

-- Over every list of calls of a new driver, with each connection: no node, or one, is told that the session opened, and
-- is told so once; after that only this node gets lines of it, until it is logged that the session ended. Right after
-- that this node is told that the session closed, or it is not; and until the next connection is asked for no node is
-- told anything of a session.
abbrev pub SessionsAreTold : Type 0
SessionsAreTold = (steps : List Step) (driver : Driver) → Led steps driver → (last : Phase) × Leads Gone (all_told steps) last

-- After every list of calls of a new driver: if an open connection is gone, and its node is up, as far as is known, it
-- is logged that the session ended, or that none was given, and the node is told that the session closed.
abbrev pub EndsAreTold : Type 0
EndsAreTold =
    (steps : List Step) (driver new : Driver) (session : Session) (now : ℕ) (why : Ending)
    → Led steps driver → driver.link.stage ≡ Open session
    → is_some (boot_up (status_at driver.monitors session.node)) ≡ true
    → Ends now why driver new
    → new.orders ≡ ordered driver.orders (Log (end_of session.is_opened session.node why) ∷ Submit session.node note.Closed ∷ [])
