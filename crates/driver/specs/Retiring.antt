-- When earlier runs of a node are retired: the group agrees that they are gone.
use Rattle.std.specs.Prelude.{ℕ, ◌+◌, ◌-◌, ◌*◌, nat_lt, ◌&&◌, ◌||◌, Bool, true, false, nat_eq, nat_le, if◌then◌else◌, List, [], ◌∷◌, Option, Some, None, slice_get}
use Rattle.bouncer_tower.specs.Bodies.{TowerBody}
use Rattle.bouncer_tower.specs.Hosting.{of_buffers}
use Rattle.buffer_commands.specs.declared.command.Command.TheVariants.{NodeGone}
use Rattle.buffer_commands.specs.declared.wire_line.WireLine.{WireLine}
use Rattle.node_notes.specs.Notes.{leads}
use Rattle.driver.specs.declared.node_monitor.standing.Outage.{Outage}
use Rattle.driver.specs.declared.node_monitor.standing.Presence.{Presence}
use Rattle.node_notes.specs.declared.note.Note.{Note}
use Rattle.node_notes.specs.declared.note.Note.TheVariants.{Restart}
use Rattle.node_notes.specs.declared.status.Status.{Status}
use Rattle.driver.specs.declared.node_monitor.NodeMonitor.{NodeMonitor}
use Rattle.driver.specs.declared.retirement.Lead.{Lead}
use Rattle.driver.specs.declared.retirement.Retirement.{Retirement}
use Rattle.driver.specs.declared.retirement.Progress.{Progress}
use Rattle.driver.specs.declared.retirement.Progress.TheVariants.{Told, Appended, Lost, Applied}
use Rattle.driver.specs.Monitors.{at, is_over}
use Rattle.driver.specs.Hearing.{is_none}
use Rattle.driver.specs.Telling.{Ordered, next_note}
use Rattle.driver.specs.declared.node_monitor.TheConstants.{DEAD}
use Rattle.wire_bytes.specs.Limits.{number_limit}

-- that the runs of a node with a smaller boot are gone
abbrev pub gone_body : ℕ → ℕ → TowerBody
gone_body node floor = of_buffers (NodeGone node floor)

-- how a node in this state leads, if it does
abbrev pub lead_of : Status → Option Lead
lead_of status = if leads status then Some (record { boot = status.boot; term = status.term }) else None

-- the run and the term in which a node led when it was last heard from, if it did
abbrev pub lead_in : Option Status → Option Lead
lead_in None = None
lead_in (Some status) = lead_of status

-- What is known of an ask that is at this place or before it in the log of a node that led like this: as long as it
-- leads in that run and that term its log only grows, so the ask is applied once the place is.
abbrev pub standing_by : Lead → ℕ → Status → Progress
standing_by lead place status =
    if leads status && nat_eq lead.boot status.boot && nat_eq lead.term status.term
    then (if nat_le place status.applied then Applied else Appended lead place)
    else Lost

-- a node that led when it was asked, and still leads the same way when the note is done, has appended it to its log
abbrev pub appended_by : Option Lead → Status → Progress
appended_by None status = Lost
appended_by (Some lead) status = standing_by lead status.last status

-- what is known of an ask after a report of the node that was asked: its state, how many of its notes are done, and
-- whether a turn of it did nothing
unfoldable pub progress_after : Progress → Status → ℕ → Bool → Progress
progress_after (Told note lead) status done refused =
    if refused then Lost else (if nat_le note done then appended_by lead status else Told note lead)
progress_after (Appended lead place) status done refused = standing_by lead place status
progress_after Lost status done refused = Lost
progress_after Applied status done refused = Applied

-- an ask that may be lost is made again, once each wait
abbrev pub is_lost : Progress → Bool
is_lost (Told note lead) = false
is_lost (Appended lead place) = false
is_lost Lost = true
is_lost Applied = false

-- a retirement is to be asked for: it may be lost, and its last ask is long enough ago
abbrev pub is_due : Retirement → ℕ → ℕ → Bool
is_due retirement wait now = is_lost retirement.progress && is_over retirement.asked wait now

-- the retirement after an ask at a node: when, where, in which note, and how the node led then
abbrev pub asked_of : Retirement → ℕ → ℕ → ℕ → Option Status → Retirement
asked_of retirement now via note status = record retirement { asked = at now; via = via; progress = Told note (lead_in status) }

-- a retirement that is to be asked for now
abbrev pub fresh : ℕ → ℕ → Retirement
fresh node floor = record { node = node; floor = floor; asked = at 0; via = node; progress = Lost }

-- the retirement after an ask at this monitor
abbrev pub asked_at : Ordered → Retirement → ℕ → NodeMonitor → Retirement
asked_at orders retirement now monitor = asked_of retirement now monitor.id (next_note orders monitor.id) monitor.status

-- a retirement after a report of this node, which matters if it was last asked for there
abbrev pub heard_of : ℕ → Status → ℕ → Bool → Retirement → Retirement
heard_of node status done refused retirement =
    if nat_eq retirement.via node
    then record retirement { progress = progress_after retirement.progress status done refused }
    else retirement

-- for the retirement at a place, if there is one
abbrev pub heard_in : ℕ → Status → ℕ → Bool → Option Retirement → Option Retirement
heard_in node status done refused None = None
heard_in node status done refused (Some retirement) = Some (heard_of node status done refused retirement)

-- the greater of two boots
abbrev pub greatest : Option ℕ → ℕ → ℕ
greatest None boot = boot
greatest (Some seen) boot = if nat_le boot seen then seen else boot

-- a monitor after a client of it had an origin with this boot
abbrev pub with_seen : ℕ → NodeMonitor → NodeMonitor
with_seen boot monitor = record monitor { visitors = record monitor.visitors { greatest_boot = Some (greatest monitor.visitors.greatest_boot boot) } }

-- the runs up to this boot are gone
abbrev pub gone_below : Option ℕ → Option ℕ
gone_below None = None
gone_below (Some boot) = if nat_lt boot number_limit then Some (boot + 1) else None

-- the last run of a node that is over: if it is down, the one in which it was last heard from; if it has given no
-- answer for too long, the last one whose boot was seen
abbrev pub boot_over : Option Outage → Option Status → Option ℕ → Bool → Option ℕ
boot_over (Some since) (Some status) seen silent = Some (greatest seen status.boot)
boot_over (Some since) None seen silent = if silent then seen else None
boot_over None status seen silent = if silent then seen else None

-- a node has given no answer for so long that its runs count as over: for ten waits, or so long that its clients were
-- told that it hangs
abbrev pub is_dead : Presence → ℕ → ℕ → Bool
is_dead presence wait now = presence.is_hanging || is_over presence.last_report (DEAD * wait) now

-- the last run of a node that is over now, if one is: the node is down, or has given no answer for too long
abbrev pub dead_boot : NodeMonitor → ℕ → ℕ → Option ℕ
dead_boot monitor wait now = boot_over monitor.down monitor.status monitor.visitors.greatest_boot (is_dead monitor.presence wait now)

-- the boot below which the runs of a node are over now, if some are
abbrev pub dead_below : NodeMonitor → ℕ → ℕ → Option ℕ
dead_below monitor wait now = gone_below (dead_boot monitor wait now)

-- a retirement below this floor says more than the one before: its floor is greater, or there was none
abbrev pub is_news : Option Retirement → ℕ → Bool
is_news None floor = true
is_news (Some retirement) floor = nat_lt retirement.floor floor

-- a retirement that is known to be applied: the runs below its floor are gone for all nodes
abbrev pub floor_by : Progress → ℕ → Option ℕ
floor_by (Told note lead) floor = None
floor_by (Appended lead place) floor = None
floor_by Lost floor = None
floor_by Applied floor = Some floor

-- the boot below which runs are gone for all nodes, if there is a retirement and it is known to be applied
abbrev pub applied_floor : Option Retirement → Option ℕ
applied_floor None = None
applied_floor (Some retirement) = floor_by retirement.progress retirement.floor

-- a node in this state is up in a run below this one
abbrev pub is_up_below : Option Status → ℕ → Bool
is_up_below None floor = false
is_up_below (Some status) floor = is_none status.down && nat_lt status.boot floor

-- a node is to start again if it lives on in a run that is gone; but not while its last such note is not done
abbrev pub is_to_restart : NodeMonitor → ℕ → Bool
is_to_restart monitor floor = is_up_below monitor.status floor && nat_le monitor.restart_note monitor.progress.done

-- the note for a node whose runs below this one are gone, if they are
abbrev pub restart_if : NodeMonitor → Option ℕ → Option (Note TowerBody WireLine)
restart_if monitor None = None
restart_if monitor (Some floor) = if is_to_restart monitor floor then Some Restart else None

-- what is known of the node then
abbrev pub restart_behind : Ordered → NodeMonitor → Option (Note TowerBody WireLine) → NodeMonitor
restart_behind orders monitor None = monitor
restart_behind orders monitor (Some note) = record monitor { restart_note = next_note orders monitor.id }

-- the retirement of runs of a node, if there is one
abbrev pub retirement_in : Option (Option Retirement) → Option Retirement
retirement_in None = None
retirement_in (Some place) = place

-- none of the seven has runs that are retired
abbrev pub no_retirements : List (Option Retirement)
no_retirements = None ∷ None ∷ None ∷ None ∷ None ∷ None ∷ None ∷ []

-- the retirement of runs of this node, if there is one; nodes count from 1
abbrev pub retirement_at : List (Option Retirement) → ℕ → Option Retirement
retirement_at all node = retirement_in (slice_get all (node - 1))

-- the note that a node gets because of the retirement of its runs
abbrev pub restart_at : List (Option Retirement) → NodeMonitor → Option (Note TowerBody WireLine)
restart_at all monitor = restart_if monitor (applied_floor (retirement_at all monitor.id))
