-- The notes that a node gets from the clock and because of its state, and when.
use Rattle.std.specs.Prelude.{ℕ, ◌+◌, ◌*◌, ◌-◌, ◌&&◌, Bool, false, not, nat_eq, nat_le, if◌then◌else◌, List, [], ◌∷◌, Option, Some, None}
use Rattle.bouncer_tower.specs.Bodies.{TowerBody}
use Rattle.buffer_commands.specs.declared.wire_line.WireLine.{WireLine}
use Rattle.node_notes.specs.declared.note.Note.{Note}
use Rattle.node_notes.specs.declared.note.Note.TheVariants.{Timeout, Beat, Restart, Claim}
use Rattle.node_notes.specs.declared.progress.Progress.{Progress}
use Rattle.node_notes.specs.declared.status.Status.{Status}
use Rattle.node_notes.specs.Notes.{leads}
use Rattle.machine_laws.specs.Sessions.{same_session}
use Rattle.raft_log.specs.Batches.{batch_limit}
use Rattle.driver.specs.declared.timer.Timer.{Timer}
use Rattle.driver.specs.Pacing.{doubled}
use Rattle.driver.specs.declared.node_monitor.NodeMonitor.{NodeMonitor}
use Rattle.driver.specs.declared.node_monitor.standing.Claimed.{Claimed}
use Rattle.driver.specs.declared.node_monitor.standing.Outage.{Outage}
use Rattle.driver.specs.declared.order.Order.{Order}
use Rattle.driver.specs.declared.order.Order.TheVariants.{Submit}
use Rattle.driver.specs.declared.settings.Settings.{Settings}
use Rattle.driver.specs.Telling.{Ordered, next_note}
use Rattle.driver.specs.declared.node_monitor.TheConstants.{LONGEST}
use Rattle.driver.specs.declared.node_monitor.clock.TheConstants.{APART}

-- this many milliseconds have passed since then; before that moment none have
abbrev pub is_over : Timer → ℕ → ℕ → Bool
is_over timer wait now = nat_le wait (now - timer.since)

-- how long a node waits for a leader: each next one 50 ms longer
abbrev pub patience : Settings → ℕ → ℕ
patience settings id = settings.timeout_ms + APART * id

-- a leader sends if it was not asked to for a while, and its last such note is done
abbrev pub is_to_beat : NodeMonitor → Settings → ℕ → Bool
is_to_beat monitor settings now = is_over monitor.beat.at settings.beat_ms now && nat_le monitor.beat.note monitor.progress.done

-- the note for a node that is up: a leader is to send; any other, if it has heard of no leader for too long, is to ask
-- for votes, unless it heard of one more often than is known
unfoldable pub note_up : NodeMonitor → Settings → ℕ → Status → Option (Note TowerBody WireLine)
note_up monitor settings now status =
    if leads status
    then (if is_to_beat monitor settings now then Some Beat else None)
    else (if is_over monitor.following.last_leader_contact (patience settings monitor.id) now then Some (Timeout monitor.progress.contacts) else None)

-- the note for a node, by what is known of it: none if it was never heard from, and if it is down, to start again once
-- it has waited long enough
unfoldable pub note_for : NodeMonitor → Settings → ℕ → Option Status → Option Outage → Option (Note TowerBody WireLine)
note_for monitor settings now None down = None
note_for monitor settings now (Some status) (Some outage) = if is_over outage.since outage.wait_ms now then Some Restart else None
note_for monitor settings now (Some status) None = note_up monitor settings now status

-- the note that the clock sends a node at this moment, if any
abbrev pub note_at : NodeMonitor → Settings → ℕ → Option (Note TowerBody WireLine)
note_at monitor settings now = note_for monitor settings now monitor.status monitor.down

-- a node has no room for more notes: too many of its notes are not done, or are requests that wait for a leader
abbrev pub is_full : ℕ → Progress → Bool
is_full told progress = nat_le batch_limit ((told - progress.done) + progress.waiting)

-- a note as orders to the node
abbrev pub told : ℕ → Option (Note TowerBody WireLine) → List Order
told id None = []
told id (Some note) = Submit id note ∷ []

-- a timer from this moment
abbrev pub at : ℕ → Timer
at now = record { since = now }

-- a leader that was asked to send: when, and by which note
abbrev pub beaten_at : Ordered → NodeMonitor → ℕ → NodeMonitor
beaten_at orders monitor now = record monitor { beat = record { at = at now; note = next_note orders monitor.id } }

-- a node is down from this moment on, until it is asked to start again this many milliseconds later
abbrev pub outage : ℕ → ℕ → Outage
outage now wait = record { since = at now; wait_ms = wait }

-- a node that was asked to start again waits twice as long as before until it is asked next, up to a limit
abbrev pub restarted_at : NodeMonitor → ℕ → NodeMonitor
restarted_at monitor now = record monitor {
  down = Some (outage now monitor.backoff.next);
  backoff = record monitor.backoff { next = doubled monitor.backoff.most monitor.backoff.next };
}

-- the monitor after the note of the clock, if there is one
unfoldable pub monitor_behind : Ordered → NodeMonitor → ℕ → Option (Note TowerBody WireLine) → NodeMonitor
monitor_behind orders monitor now (Some Beat) = beaten_at orders monitor now
monitor_behind orders monitor now (Some (Timeout contacts)) = record monitor { following = record { last_leader_contact = at now; has_yielded = false } }
monitor_behind orders monitor now (Some Restart) = restarted_at monitor now
monitor_behind orders monitor now _ = monitor

-- the monitor of a node that was just started: nothing is known of it, and its first wait is a timeout
abbrev pub new_monitor : Settings → ℕ → ℕ → NodeMonitor
new_monitor settings now id = record {
  id = id;
  status = None;
  progress = record { done = 0; waiting = 0; lost = 0; contacts = 0 };
  following = record { last_leader_contact = at now; has_yielded = false };
  beat = record { at = at now; note = 0 };
  claimed = None;
  down = None;
  backoff = record { first = settings.timeout_ms; most = LONGEST; next = settings.timeout_ms };
  restart_note = 0;
  presence = record { last_report = at now; up = at now; is_hanging = false };
  visitors = record { greatest_boot = None; has_turned_away = false };
}

-- the next line to claim: its session, if the node holds one, and its number, if there is one
abbrev pub line_in : Option (ℕ × ℕ) → Option ℕ → Option ((ℕ × ℕ) × ℕ)
line_in (Some session) (Some number) = Some (session, number)
line_in (Some session) None = None
line_in None number = None

-- the line that a node would claim next, by its state when it was last heard from
abbrev pub line_to_claim : Option Status → Option ((ℕ × ℕ) × ℕ)
line_to_claim (Some status) = line_in status.session status.next_claim
line_to_claim None = None

-- this line was claimed last, and the claim may be in the log, or was made not long ago
abbrev pub is_claimed : Option Claimed → ℕ → ℕ → (ℕ × ℕ) → ℕ → Bool
is_claimed None wait now session number = false
is_claimed (Some last) wait now session number =
    same_session last.session session && nat_eq last.number number && not (last.is_settled && is_over last.at wait now)

-- the line to claim, without one whose claim may still be in the log
abbrev pub unless_claimed : NodeMonitor → ℕ → ℕ → Option ((ℕ × ℕ) × ℕ) → Option ((ℕ × ℕ) × ℕ)
unless_claimed monitor wait now None = None
unless_claimed monitor wait now (Some line) = if is_claimed monitor.claimed wait now line.0 line.1 then None else Some line

-- the line that a node is to claim now, if there is one: none while the last claim of the same line may still be in the
-- log
unfoldable pub claim_due : NodeMonitor → Settings → ℕ → Option ((ℕ × ℕ) × ℕ)
claim_due monitor settings now = unless_claimed monitor settings.timeout_ms now (line_to_claim monitor.status)

-- a claim goes to the node if one is due, and a line may be claimed
abbrev pub claim_if : Bool → Option ((ℕ × ℕ) × ℕ) → Option (Note TowerBody WireLine)
claim_if may None = None
claim_if may (Some line) = if may then Some Claim else None

-- the note that asks a node to claim, if a line is due, and one may be claimed
abbrev pub claim_at : NodeMonitor → Settings → ℕ → Bool → Option (Note TowerBody WireLine)
claim_at monitor settings now may = claim_if may (claim_due monitor settings now)

-- the claim of a line that the node is asked for now, in its next note
abbrev pub claim_told : Ordered → NodeMonitor → ℕ → ((ℕ × ℕ) × ℕ) → Claimed
claim_told orders monitor now line =
    record { session = line.0; number = line.1; at = at now; note = next_note orders monitor.id; is_settled = false }

-- the monitor after it: it remembers which line was claimed, when, and in which note
abbrev pub monitor_claimed : Ordered → NodeMonitor → ℕ → Bool → Option ((ℕ × ℕ) × ℕ) → NodeMonitor
monitor_claimed orders monitor now may None = monitor
monitor_claimed orders monitor now may (Some line) = if may then record monitor { claimed = Some (claim_told orders monitor now line) } else monitor
