-- Each node gets in time the notes that the group needs to go on, whatever else is called, as long as time passes.
use Rattle.std.specs.Prelude.{◌≡◌, ◌≤◌, ◌<◌, ℕ, ◌+◌, ◌-◌, ◌*◌, ◌/◌, ◌&&◌, ◌||◌, Bool, true, false, not, is_some, max, min, nat_eq, nat_le, if◌then◌else◌, List, [], ◌∷◌, length, Option, Some, None, slice_get}
use Rattle.std.specs.List.{list_all, list_any}
use Rattle.node_notes.specs.declared.note.Note.TheVariants.{Beat, Restart, Timeout}
use Rattle.node_notes.specs.declared.progress.Progress.{Progress}
use Rattle.node_notes.specs.declared.status.Status.{Status}
use Rattle.node_notes.specs.Notes.{leads}
use Rattle.driver.specs.declared.node_monitor.NodeMonitor.{NodeMonitor}
use Rattle.driver.specs.declared.node_monitor.standing.Claimed.{Claimed}
use Rattle.irc_line.specs.Lines.{Parts}
use Rattle.machine_laws.specs.Sessions.{same_session}
use Rattle.wire_bytes.specs.declared.moment.Moment.{Moment}
use Rattle.driver.specs.declared.driver.Driver.{Driver}
use Rattle.driver.specs.declared.order.Order.{Order}
use Rattle.driver.specs.declared.order.Order.TheVariants.{Submit}
use Rattle.driver.specs.Calls.{Call, DoesAll, DoesStep, Hear, Led, Step, Tick}
use Rattle.driver.specs.Claiming.{claims}
use Rattle.driver.specs.Counting.{all_told}
use Rattle.driver.specs.Leading.{IsLeader}
use Rattle.driver.specs.Links.{status_at}
use Rattle.driver.specs.Monitors.{line_to_claim}
use Rattle.driver.specs.Outgoing.{Waiting}
use Rattle.driver.specs.Writing.{may_write}
use Rattle.driver.specs.Reports.{done_at}
use Rattle.driver.specs.Telling.{told_to}
use Rattle.driver.specs.declared.node_monitor.TheConstants.{LONGEST}
use Rattle.driver.specs.declared.node_monitor.clock.TheConstants.{APART}
use Rattle.wire_bytes.specs.Limits.{node_limit}

-- when the driver last ran, after a call: it runs when time passes, and when a worker reports
abbrev pub ran_by : ℕ → Call → ℕ
ran_by ran (Tick now at) = now
ran_by ran (Hear now at node status effects progress refused) = now
ran_by ran call = ran

-- Time goes on from this moment: the driver runs at no moment before one at which it ran.
unfoldable pub GoesOn : ℕ → List Step → Type 0
GoesOn ran [] = Unit {0}
GoesOn ran (step ∷ more) = (ran ≤ ran_by ran step.call) × GoesOn (ran_by ran step.call) more

-- A driver to which calls lead from a new one, as time goes on.
pub record IsRunning (driver : Driver) : Type 0 where
  pub steps : List Step
  pub led : Led steps driver
  pub goes_on : GoesOn led.now steps

-- a call is no report of this node, or one that fits
abbrev pub tells_only : (Status → Progress → Bool) → ℕ → Call → Bool
tells_only fits node (Hear now at other status effects progress refused) = if nat_eq other node then fits status progress else true
tells_only fits node call = true

-- A running driver is called so as time goes on, and all that this node reports fits.
pub record Runs (fits : Status → Progress → Bool) (node : ℕ) (steps : List Step) (old new : Driver) : Type 0 where
  pub low : 1 ≤ node
  pub high : node ≤ node_limit
  pub is_running : IsRunning old
  pub does : DoesAll steps old new
  pub goes_on : GoesOn old.ran.since steps
  pub fit : list_all (λ step. tells_only fits node step.call) steps ≡ true

-- time passes by this call
abbrev pub is_tick : Call → Bool
is_tick (Tick now at) = true
is_tick call = false

-- time passes to this moment or a later one by this call
abbrev pub ticks_by : ℕ → Call → Bool
ticks_by moment (Tick now at) = nat_le moment now
ticks_by moment call = false

-- one of these calls does
abbrev pub passes : ℕ → List Step → Bool
passes moment steps = list_any (λ step. ticks_by moment step.call) steps

-- one of these calls gives such an order
abbrev pub one_orders : (Order → Bool) → List Step → Bool
one_orders is steps = list_any is (all_told steps)

-- an order asks this node to start again
abbrev pub restarts : ℕ → Order → Bool
restarts node (Submit other Restart) = nat_eq other node
restarts node order = false

-- an order asks this node to send as a leader
abbrev pub beats : ℕ → Order → Bool
beats node (Submit other Beat) = nat_eq other node
beats node order = false

-- an order asks this node for an election, unless it heard of a leader more often than this
abbrev pub asks_for_votes : ℕ → ℕ → Order → Bool
asks_for_votes node contacts (Submit other (Timeout most)) = nat_eq other node && nat_eq most contacts
asks_for_votes node contacts order = false

-- A node that is down is asked to start again in time. It was down when it was last heard from, and is in all its
-- reports: once a minute has passed, or a timeout if that is longer, however often it failed before, it was asked.
abbrev pub RestartsInTime : Type 0
RestartsInTime =
    (node : ℕ) (status : Status) (steps : List Step) (old new : Driver)
    → Runs (λ reported progress. is_some reported.down) node steps old new
    → status_at old.monitors node ≡ Some status → is_some status.down ≡ true
    → passes (old.ran.since + max LONGEST old.settings.timeout_ms) steps ≡ true
    → one_orders (restarts node) steps ≡ true

-- A leader is asked to send in time. It led when it was last heard from, and does in all its reports, and had done all
-- its notes: once the time of a beat has passed, it was asked to send.
abbrev pub BeatsInTime : Type 0
BeatsInTime =
    (node : ℕ) (status : Status) (steps : List Step) (old new : Driver)
    → Runs (λ reported progress. leads reported) node steps old new
    → status_at old.monitors node ≡ Some status → leads status ≡ true
    → told_to old.orders node ≤ done_at old.monitors node
    → passes (old.ran.since + old.settings.beat_ms) steps ≡ true
    → one_orders (beats node) steps ≡ true

-- a report says that this node did all its notes up to this one
abbrev pub did : ℕ → ℕ → Call → Bool
did node note (Hear now at other status effects progress refused) = nat_eq other node && nat_le note progress.done
did node note call = false

-- one of these calls is such a report, and after it time passes to this moment
unfoldable pub did_then_passes : ℕ → ℕ → ℕ → List Step → Bool
did_then_passes node note moment [] = false
did_then_passes node note moment (step ∷ more) = did node note step.call && passes moment more || did_then_passes node note moment more

-- For a leader that reports meanwhile that it did all earlier notes.
abbrev pub BeatsBehindReports : Type 0
BeatsBehindReports =
    (node : ℕ) (status : Status) (steps : List Step) (old new : Driver)
    → Runs (λ reported progress. leads reported) node steps old new
    → status_at old.monitors node ≡ Some status → leads status ≡ true
    → did_then_passes node (told_to old.orders node) (old.ran.since + old.settings.beat_ms) steps ≡ true
    → one_orders (beats node) steps ≡ true

-- how often this monitor's node had heard of a leader, as far as is known
abbrev pub contacts_of : Option NodeMonitor → ℕ
contacts_of None = 0
contacts_of (Some monitor) = monitor.progress.contacts

-- A report of no leader: the node is up, does not lead, is in this term, and heard of a leader no more often than this.
abbrev pub tells_of_none : ℕ → ℕ → Status → Progress → Bool
tells_of_none term contacts status progress =
    not (is_some status.down) && not (leads status) && nat_eq status.term term && nat_le progress.contacts contacts

-- how much of the time until a call counts as silence: half a timeout at most, since the driver may have slept
-- meanwhile
abbrev pub counts : ℕ → ℕ → Call → ℕ
counts half ran call = min (ran_by ran call - ran) half

-- time passes when at least this much has counted
unfoldable pub passes_counted : ℕ → ℕ → ℕ → List Step → Bool
passes_counted half ran wait [] = false
passes_counted half ran wait (step ∷ more) =
    let left = wait - counts half ran step.call in
    is_tick step.call && nat_eq left 0 || passes_counted half (ran_by ran step.call) left more

-- A node that hears of no leader is asked for an election in time. It was up when it was last heard from, and is in all
-- its reports, which report no leader: once a timeout has counted, and 50 ms more for each node up to it, it was asked
-- for an election, with the number of contacts that it reported.
abbrev pub VotesInTime : Type 0
VotesInTime =
    (node : ℕ) (status : Status) (steps : List Step) (old new : Driver)
    → Runs (tells_of_none status.term (contacts_of (slice_get old.monitors (node - 1)))) node steps old new
    → status_at old.monitors node ≡ Some status → is_some status.down ≡ false → leads status ≡ false
    → passes_counted (old.settings.timeout_ms / 2) old.ran.since (old.settings.timeout_ms + APART * node) steps ≡ true
    → one_orders (asks_for_votes node (contacts_of (slice_get old.monitors (node - 1)))) steps ≡ true

-- By each of these calls time passes, and the driver runs later than before.
unfoldable pub EachTicks : ℕ → List Step → Type 0
EachTicks ran [] = Unit {0}
EachTicks ran (step ∷ more) = (is_tick step.call ≡ true) × (ran < ran_by ran step.call) × EachTicks (ran_by ran step.call) more

-- So if there are that many ticks, each at least a millisecond after the one before, one asks it for an election, if
-- half a timeout is a millisecond or more.
abbrev pub VotesInTicks : Type 0
VotesInTicks =
    (node : ℕ) (status : Status) (steps : List Step) (old new : Driver)
    → Runs (tells_of_none status.term (contacts_of (slice_get old.monitors (node - 1)))) node steps old new
    → status_at old.monitors node ≡ Some status → is_some status.down ≡ false → leads status ≡ false
    → EachTicks old.ran.since steps → 1 ≤ old.settings.timeout_ms / 2
    → old.settings.timeout_ms + APART * node ≤ length steps
    → one_orders (asks_for_votes node (contacts_of (slice_get old.monitors (node - 1)))) steps ≡ true

-- nothing waits to go out but questions
abbrev pub only_questions : List Parts → Waiting
only_questions questions = record { opening = []; joins = []; joining = None; said = []; questions = questions }

-- A line may go out at this moment, and nothing but questions waits.
pub record IsFree (now : ℕ) (driver : Driver) : Type 0 where
  pub questions : List Parts
  pub waiting : driver.link.waiting ≡ only_questions questions
  pub may : may_write driver now ≡ true

-- A report says that this node did all its notes up to this one, and that it has applied all of its log.
abbrev pub settles : ℕ → ℕ → Call → Bool
settles node note (Hear now at other status effects progress refused) =
    nat_eq other node && nat_le note progress.done && nat_eq status.applied status.last
settles node note call = false

-- A claim is repeated in time. A node was asked for no claim meanwhile, and it reported that it did all earlier notes,
-- and has applied all of its log, so that its last claim is not in there: when time passes a timeout later, and it is
-- the leader of the greatest term, as far as is known, has a line to claim, and the line could go out at once, it is
-- asked to claim it.
abbrev pub ClaimsInTime : Type 0
ClaimsInTime =
    (node now : ℕ) (at : Moment) (line : (ℕ × ℕ) × ℕ) (steps : List Step) (told : List Order) (old next new : Driver)
    → Runs (λ reported progress. true) node steps old next
    → one_orders (claims node) steps ≡ false
    → list_any (λ step. settles node (told_to old.orders node) step.call) steps ≡ true
    → old.ran.since + old.settings.timeout_ms ≤ now
    → DoesStep (record { call = Tick now at; told = told }) next new
    → IsLeader next.monitors (Some node) → line_to_claim (status_at next.monitors node) ≡ Some line → IsFree now next
    → list_any (claims node) told ≡ true

-- the last claim that a monitor's node was asked for was of this line
abbrev pub is_claim_of : (ℕ × ℕ) × ℕ → Option Claimed → Bool
is_claim_of line None = false
is_claim_of line (Some claim) = same_session claim.session line.0 && nat_eq claim.number line.1

abbrev pub is_claimed_last : Option NodeMonitor → (ℕ × ℕ) × ℕ → Bool
is_claimed_last None line = false
is_claimed_last (Some monitor) line = is_claim_of line monitor.claimed

-- A line that was not claimed before is claimed in time: the last claim that the node was asked for, if there is one,
-- was of another line. When time passes, the node is the leader of the greatest term, as far as is known, and the line
-- could go out at once, the node is asked to claim it.
abbrev pub NewClaimsInTime : Type 0
NewClaimsInTime =
    (node now : ℕ) (at : Moment) (line : (ℕ × ℕ) × ℕ) (told : List Order) (next new : Driver)
    → IsRunning next
    → is_claimed_last (slice_get next.monitors (node - 1)) line ≡ false
    → DoesStep (record { call = Tick now at; told = told }) next new
    → IsLeader next.monitors (Some node) → line_to_claim (status_at next.monitors node) ≡ Some line → IsFree now next
    → list_any (claims node) told ≡ true
