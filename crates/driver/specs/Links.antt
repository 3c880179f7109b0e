-- The connection to the server, and the numbers of clients.
use Rattle.std.specs.Prelude.{◌≡◌, ℕ, ◌-◌, Bool, true, false, not, codes, nat_eq, nat_lt, if◌then◌else◌, List, [], ◌∷◌, ◌++◌, length, Option, Some, None, slice_get}
use Rattle.std.specs.Global.{Vec}
use Rattle.std.specs.Option.{is_some, option_to_list}
use Rattle.irc_line.specs.Lines.{Parts, spelling}
use Rattle.irc_line.specs.Names.{same_bytes}
use Rattle.wire_bytes.specs.declared.moment.Moment.{Moment}
use Rattle.buffer_commands.specs.declared.wire_line.WireLine.{WireLine}
use Rattle.bouncer_tower.specs.Bodies.{TowerBody}
use Rattle.node_notes.specs.declared.note.Note.{Note}
use Rattle.node_notes.specs.declared.note.Note.TheVariants as note
use Rattle.uplink.specs.declared.input.UplinkInput.{UplinkInput}
use Rattle.uplink.specs.declared.input.UplinkInput.TheVariants as input
use Rattle.uplink.specs.Calls.{Fed, Ended, GoesOn, IsAfter}
use Rattle.uplink.specs.Calls as uplink
use Rattle.uplink.specs.Sending.{first_bytes}
use Rattle.node_notes.specs.declared.status.Status.{Status}
use Rattle.driver.specs.declared.backoff.Backoff.{Backoff}
use Rattle.driver.specs.Pacing.{doubled}
use Rattle.driver.specs.declared.node_monitor.NodeMonitor.{NodeMonitor}
use Rattle.driver.specs.declared.link.Session.{Session}
use Rattle.driver.specs.declared.link.Stage.{Stage}
use Rattle.driver.specs.declared.link.Stage.TheVariants.{Closing, Idle, Connecting, Open}
use Rattle.driver.specs.declared.news.Ending.{Ending}
use Rattle.driver.specs.declared.news.Ending.TheVariants.{ByServer, LedNoMore, Lost, Refused, Silent, Unreachable}
use Rattle.driver.specs.declared.news.News.{News}
use Rattle.driver.specs.declared.news.News.TheVariants.{Closed, Unopened}
use Rattle.driver.specs.declared.order.Order.{Order}
use Rattle.driver.specs.declared.order.Order.TheVariants.{Send, Log}
use Rattle.driver.specs.declared.settings.Settings.{Settings}
use Rattle.driver.specs.Monitors.{at, is_over}
use Rattle.driver.specs.Outgoing.{Waiting, nothing_waits}
use Rattle.driver.specs.Telling.{Ordered, ordered}
use Rattle.driver.specs.declared.link.TheConstants.{FIRST_WAIT, LONGEST_WAIT}
use Rattle.driver.specs.declared.link.losing.TheConstants.{GOOD_SESSION}
use Rattle.irc_line.specs.Limits.{line_limit}

-- the node that a connection belongs to, if there is one
abbrev pub node_of : Stage → Option ℕ
node_of (Idle since wait) = None
node_of (Closing since wait) = None
node_of (Connecting node) = Some node
node_of (Open session) = Some session.node

-- a connection may be tried: there is none, and the wait since the last one is over
abbrev pub may_connect : Stage → ℕ → Bool
may_connect (Idle since wait) now = is_over since wait now
may_connect (Closing since wait) now = false
may_connect (Connecting node) now = false
may_connect (Open session) now = false

-- before anything failed: the first wait is a second, and the longest a minute
abbrev pub first_backoff : Backoff
first_backoff = record { first = FIRST_WAIT; most = LONGEST_WAIT; next = FIRST_WAIT }

-- what is logged when an open connection ends: the end of its session, or that none was given
abbrev pub end_of : Bool → ℕ → Ending → News
end_of was_given node why = if was_given then Closed node why else Unopened node why

-- what is logged about a connection that is gone
abbrev pub ending : Stage → Ending → List Order
ending (Idle since wait) why = []
ending (Closing since wait) why = []
ending (Connecting node) why = Log (Unopened node why) ∷ []
ending (Open session) why = Log (end_of session.is_opened session.node why) ∷ []

-- an open connection whose server gave the session
abbrev pub opened : Stage → Stage
opened (Idle since wait) = Idle since wait
opened (Closing since wait) = Closing since wait
opened (Connecting node) = Connecting node
opened (Open session) = Open (record session { is_opened = true })

-- there is a session that the server has not given yet
abbrev pub is_fresh : Stage → Bool
is_fresh (Idle since wait) = false
is_fresh (Closing since wait) = false
is_fresh (Connecting node) = false
is_fresh (Open session) = not session.is_opened

-- what waits to go out after a connection is gone: nothing
abbrev pub waiting_behind : Stage → Waiting → Waiting
waiting_behind (Idle since wait) waiting = waiting
waiting_behind (Closing since wait) waiting = waiting
waiting_behind (Connecting node) waiting = nothing_waits
waiting_behind (Open session) waiting = nothing_waits

-- how long the wait is after a connection is gone: the first wait again after a session of a minute
abbrev pub wait_behind : Stage → Backoff → ℕ → ℕ
wait_behind (Open session) backoff now = if is_over session.since GOOD_SESSION now then backoff.first else backoff.next
wait_behind (Connecting node) backoff now = backoff.next
wait_behind (Idle since wait) backoff now = wait
wait_behind (Closing since wait) backoff now = wait

-- the stage of a connection that is gone
abbrev pub idle_behind : Stage → Backoff → ℕ → Stage
idle_behind (Idle since wait) backoff now = Idle since wait
idle_behind (Closing since wait) backoff now = Idle (at now) wait
idle_behind (Connecting node) backoff now = Idle (at now) backoff.next
idle_behind (Open session) backoff now = Idle (at now) (wait_behind (Open session) backoff now)

-- the end of a connection is a failure: any but that its node no longer leads
abbrev pub is_failure : Ending → Bool
is_failure Refused = true
is_failure Unreachable = true
is_failure ByServer = true
is_failure Lost = true
is_failure Silent = true
is_failure LedNoMore = false

-- how long the next wait is: after a failure twice as long, up to a limit
abbrev pub next_wait : Bool → ℕ → ℕ → ℕ
next_wait failed most wait = if failed then doubled most wait else wait

-- why the last connection ended, after one is gone
abbrev pub ended_behind : Stage → Ending → Option Ending → Option Ending
ended_behind (Idle since wait) why ended = ended
ended_behind (Closing since wait) why ended = ended
ended_behind (Connecting node) why ended = Some why
ended_behind (Open session) why ended = Some why

-- how long the wait is after the next one that is gone: after a failure twice as long as after this one, up to a limit
abbrev pub backoff_behind : Stage → Ending → Backoff → ℕ → Backoff
backoff_behind (Idle since wait) why backoff now = backoff
backoff_behind (Closing since wait) why backoff now = backoff
backoff_behind (Connecting node) why backoff now = record backoff { next = next_wait (is_failure why) backoff.most backoff.next }
backoff_behind (Open session) why backoff now =
    record backoff { next = next_wait (is_failure why) backoff.most (wait_behind (Open session) backoff now) }

-- a connection that is gone, when the server knows that its session is over: the server is to close it
abbrev pub lingering : Stage → Stage
lingering (Idle since wait) = Closing since wait
lingering (Closing since wait) = Closing since wait
lingering (Connecting node) = Connecting node
lingering (Open session) = Open session

-- there is a session
abbrev pub is_open : Stage → Bool
is_open (Idle since wait) = false
is_open (Closing since wait) = false
is_open (Connecting node) = false
is_open (Open session) = true

-- the state of a monitor's node when it was last heard from
abbrev pub status_in : Option NodeMonitor → Option Status
status_in None = None
status_in (Some monitor) = monitor.status

-- the state of a node when it was last heard from
abbrev pub status_at : List NodeMonitor → ℕ → Option Status
status_at monitors node = status_in (slice_get monitors (node - 1))

-- A session of an open connection begins: the server is sent its first bytes.
pub record HasBegun (settings : Settings) (now node : ℕ) (before : Ordered) (session : Session) (after : Ordered) : Type 0 where
  pub first : Vec ℕ
  pub is_first : first.items ≡ first_bytes settings.nick settings.upstream_password
  pub orders : after ≡ ordered before (Send first ∷ [])
  pub node_is : session.node ≡ node
  pub since : session.since ≡ at now
  pub heard : session.heard ≡ at now
  pub is_unasked : session.asked ≡ None
  pub is_unopened : session.is_opened ≡ false
  pub uplink_is : IsAfter session.uplink settings.nick []

-- what happens once a connection is made: nothing if none was asked for
abbrev pub Connects : Stage → Settings → ℕ → Ordered → Stage → Ordered → Type 0
Connects (Idle since wait) settings now before stage after = (stage ≡ Idle since wait) × (after ≡ before)
Connects (Closing since wait) settings now before stage after = (stage ≡ Closing since wait) × (after ≡ before)
Connects (Connecting node) settings now before stage after =
    (session : Session) × HasBegun settings now node before session after × (stage ≡ Open session)
Connects (Open session) settings now before stage after = (stage ≡ Open session) × (after ≡ before)

-- an answer to the driver's PING (RFC 2812, 3.7.3)
abbrev pub is_answer : Parts → Bool
is_answer line = same_bytes line.command (codes "PONG")

-- what an uplink gives is a note to its node; the answer to the driver's own PING is none, nor is a line that no body
-- can hold
abbrev pub note_of : Moment → UplinkInput → List (Note TowerBody WireLine)
note_of at input.Opened = note.Opened ∷ []
note_of at (input.Heard line) =
    if is_answer line then [] else (if nat_lt line_limit (length (spelling line)) then [] else note.Heard at line ∷ [])
note_of at input.Closed = note.Closed ∷ []

-- the notes to its node of all that an uplink gives, in order
unfoldable pub notes_of : Moment → List UplinkInput → List (Note TowerBody WireLine)
notes_of at [] = []
notes_of at (input ∷ inputs) = note_of at input ++ notes_of at inputs

-- bytes go to the server, if there are any
abbrev pub send_some : Vec ℕ → List ℕ → List Order
send_some bytes [] = []
send_some bytes (byte ∷ more) = Send bytes ∷ []

-- Bytes came in a session: its uplink was fed, what that wrote goes to the server, and what it gave goes to the node.
pub record HasReceived (now : ℕ) (moment : Moment) (bytes : List ℕ) (old : Session) (before : Ordered) (new : Session) (notes : List (Note TowerBody WireLine)) (after : Ordered) : Type 0 where
  pub given : List UplinkInput
  pub reply : Vec ℕ
  pub goes_on : GoesOn old.uplink (Fed bytes) new.uplink given reply.items
  pub orders : after ≡ ordered before (send_some reply reply.items)
  pub are_notes : notes ≡ notes_of moment given
  pub node_is : new.node ≡ old.node
  pub since : new.since ≡ old.since
  pub is_opened : new.is_opened ≡ old.is_opened
  pub heard : new.heard ≡ at now
  pub is_unasked : new.asked ≡ None

-- what bytes do: nothing if there is no session
abbrev pub Receives : Stage → ℕ → Moment → List ℕ → Ordered → Stage → List (Note TowerBody WireLine) → Ordered → Type 0
Receives (Idle since wait) now moment bytes before stage notes after = (stage ≡ Idle since wait) × (notes ≡ []) × (after ≡ before)
Receives (Closing since wait) now moment bytes before stage notes after = (stage ≡ Closing since wait) × (notes ≡ []) × (after ≡ before)
Receives (Connecting node) now moment bytes before stage notes after = (stage ≡ Connecting node) × (notes ≡ []) × (after ≡ before)
Receives (Open session) now moment bytes before stage notes after =
    (behind : Session) × HasReceived now moment bytes session before behind notes after × (stage ≡ Open behind)

-- whether the node has to be told of the end: it does if the uplink of its session gives the end
abbrev pub IsLost : Stage → Bool → Type 0
IsLost (Idle since wait) lost = lost ≡ false
IsLost (Closing since wait) lost = lost ≡ false
IsLost (Connecting node) lost = lost ≡ false
IsLost (Open session) lost =
    (behind : uplink.Link) × (given : Option UplinkInput) × GoesOn session.uplink Ended behind (option_to_list given) []
    × (lost ≡ is_some given)

-- there is a session of this node
abbrev pub is_session_of : Stage → ℕ → Bool
is_session_of (Idle since wait) node = false
is_session_of (Closing since wait) node = false
is_session_of (Connecting other) node = false
is_session_of (Open session) node = nat_eq session.node node
