-- What is known of a node after a report of its state, and what is logged of it.
use Rattle.std.specs.Prelude.{ℕ, ◌&&◌, ◌||◌, Bool, true, false, not, max, min, nat_eq, nat_le, nat_lt, if◌then◌else◌, List, [], ◌∷◌, ◌++◌, Option, Some, None}
use Rattle.node_notes.specs.declared.progress.Progress.{Progress}
use Rattle.node_notes.specs.declared.status.Status.{Status}
use Rattle.node_notes.specs.Notes.{leads}
use Rattle.driver.specs.Pacing.{doubled}
use Rattle.raft_log.specs.declared.role.Role.{Role}
use Rattle.raft_log.specs.declared.role.Role.TheVariants.{Follower, Candidate, Leader}
use Rattle.raft_node.specs.declared.node_fault.Cause.{Cause}
use Rattle.driver.specs.declared.node_monitor.standing.Claimed.{Claimed}
use Rattle.driver.specs.declared.node_monitor.standing.Outage.{Outage}
use Rattle.driver.specs.declared.node_monitor.standing.Presence.{Presence}
use Rattle.driver.specs.declared.node_monitor.NodeMonitor.{NodeMonitor}
use Rattle.driver.specs.declared.node_monitor.hearing.Heard.{Heard}
use Rattle.driver.specs.declared.news.News.TheVariants.{Answers, Down, Elected, TurnedAway, Up}
use Rattle.driver.specs.declared.order.Order.{Order}
use Rattle.driver.specs.declared.order.Order.TheVariants.{Log}
use Rattle.driver.specs.Monitors.{at, is_over, outage}
use Rattle.driver.specs.declared.node_monitor.hearing.TheConstants.{GOOD_RUN}

-- this is of another run than the last report
abbrev pub is_new_run : Option Status → Status → Bool
is_new_run None status = true
is_new_run (Some before) status = not (nat_eq before.boot status.boot)

-- an earlier report said that the node leads in this term
abbrev pub led_in : Option Status → ℕ → Bool
led_in None term = false
led_in (Some before) term = leads before && nat_eq before.term term

-- there is no cause for which a node is down: it is up
abbrev pub is_none : Option Cause → Bool
is_none None = true
is_none (Some cause) = false

-- the node was up when it was last heard from
abbrev pub was_up : Option Status → Bool
was_up None = false
was_up (Some before) = is_none before.down

-- a node that leads, and did not lead in this term before, was elected
abbrev pub is_elected : NodeMonitor → Status → Bool
is_elected monitor status = leads status && not (led_in monitor.status status.term)

-- it is logged that a node was elected in its term, if it was
abbrev pub elected_news : NodeMonitor → Status → List Order
elected_news monitor status = if is_elected monitor status then Log (Elected monitor.id status.term) ∷ [] else []

-- the first report that a node is down since it was up
abbrev pub down_news : ℕ → Cause → Option Outage → List Order
down_news id cause None = Log (Down id cause) ∷ []
down_news id cause (Some since) = []

-- how long the wait is: the shortest again if the node was up for a minute
abbrev pub wait_behind : NodeMonitor → ℕ → ℕ
wait_behind monitor now = if is_over monitor.presence.up GOOD_RUN now then monitor.backoff.first else monitor.backoff.next

-- it is started again after that wait, which doubles for the next time, up to a limit
abbrev pub down_behind : NodeMonitor → ℕ → Option Outage → NodeMonitor
down_behind monitor now None = record monitor {
  down = Some (outage now (wait_behind monitor now));
  backoff = record monitor.backoff { next = doubled monitor.backoff.most (wait_behind monitor now) };
  presence = record monitor.presence { is_hanging = false };
}
down_behind monitor now (Some since) = monitor

-- it is logged that a node that hung answers again, in a run that began since
abbrev pub answers_news : ℕ → Bool → List Order
answers_news id false = []
answers_news id true = Log (Answers id) ∷ []

-- it is logged that a node is up in this run, unless it was up before
abbrev pub up_news : ℕ → ℕ → Bool → List Order
up_news id boot true = []
up_news id boot false = Log (Up id boot) ∷ []

-- One that hung hangs until a new run of it began: for the others the run that hung is over.
abbrev pub hangs_on : Bool → Presence → Bool
hangs_on new presence = presence.is_hanging && not new

-- a node that came up, in a run that is new or not, waits for a leader from now on
abbrev pub up_behind : NodeMonitor → ℕ → Bool → Bool → NodeMonitor
up_behind monitor now new true = record monitor {
  down = None;
  presence = record monitor.presence { last_report = at now; is_hanging = hangs_on new monitor.presence };
  visitors = record monitor.visitors { has_turned_away = hangs_on new monitor.presence };
}
up_behind monitor now new false = record monitor {
  following = record monitor.following { last_leader_contact = at now };
  down = None;
  presence = record { last_report = at now; up = at now; is_hanging = hangs_on new monitor.presence };
  visitors = record monitor.visitors { has_turned_away = hangs_on new monitor.presence };
}

-- a node of this role follows: it neither leads nor asks for votes
abbrev pub is_follower : Role → Bool
is_follower Follower = true
is_follower Candidate = false
is_follower Leader = false

-- a node follows, and its term rose: it may have granted its vote
abbrev pub is_raised : Option Status → Status → Bool
is_raised None status = false
is_raised (Some before) status = is_follower status.role && nat_lt before.term status.term

-- A node waits anew for a leader if it heard of one, itself or another, and if its term rose while it follows. For a
-- risen term it does so only once, until it hears of a leader or asks for votes itself: a node that can't be elected
-- may ask again and again, and must not hold back the others.
abbrev pub waiting_behind : NodeMonitor → ℕ → Status → Bool → NodeMonitor
waiting_behind monitor now status led =
    let is_led = led || leads status in
    let raised = is_raised monitor.status status in
    record monitor {
      following = record {
        last_leader_contact =
            (if is_led || raised && not monitor.following.has_yielded then at now else monitor.following.last_leader_contact);
        has_yielded = not is_led && (monitor.following.has_yielded || raised);
      };
    }

-- How far a worker with this many notes is, by what was known and what it reports: it never goes back, and is never
-- further than its notes.
abbrev pub progressed : Progress → ℕ → Progress → Progress
progressed known told heard = record {
  done = max known.done (min heard.done told);
  waiting = heard.waiting;
  lost = max known.lost (min heard.lost told);
  contacts = max known.contacts heard.contacts;
}

-- The claim of a line is applied, or is not in the log, once its note is done and the node has applied all of its log.
abbrev pub settles : ℕ → Status → ℕ → Bool
settles note status done = nat_le note done && nat_eq status.applied status.last

-- what is known of the last claim of a node, given its state and how many of its notes are done
abbrev pub settled : Option Claimed → Status → ℕ → Option Claimed
settled None status done = None
settled (Some claim) status done = Some (record claim { is_settled = claim.is_settled || settles claim.note status done })

-- its state and its worker's progress are recorded, and a leader was heard of if it reports more contacts with one than
-- were known
abbrev pub told_behind : NodeMonitor → ℕ → ℕ → Status → Progress → NodeMonitor
told_behind monitor now told status progress =
    record (waiting_behind monitor now status (nat_lt monitor.progress.contacts progress.contacts)) {
      status = Some status;
      progress = progressed monitor.progress told progress;
      claimed = settled monitor.claimed status (progressed monitor.progress told progress).done;
    }

-- the monitor of a node that is up, in a run that is new or not, or is down for this cause, and was up before or was
-- not
abbrev pub stood_behind : NodeMonitor → ℕ → Bool → Bool → Option Cause → NodeMonitor
stood_behind monitor now new up None = up_behind monitor now new up
stood_behind monitor now new up (Some cause) = down_behind monitor now monitor.down

-- a run of a node began: it is up, and was not before, or was up in another run
abbrev pub begins_run : Option Status → Status → Bool
begins_run before status = is_none status.down && (not (was_up before) || is_new_run before status)

-- what is known of the node after this report, given how many notes it was sent
abbrev pub heard_behind : NodeMonitor → ℕ → ℕ → Status → Progress → NodeMonitor
heard_behind monitor now told status progress =
    stood_behind (told_behind monitor now told status progress) now (begins_run monitor.status status) (was_up monitor.status) status.down

-- what is new in it: a run of it began, and requests may be lost that were not known to be
abbrev pub heard_of : NodeMonitor → ℕ → Status → Progress → Heard
heard_of monitor told status progress = record {
  is_new = begins_run monitor.status status;
  has_lost = nat_lt monitor.progress.lost (progressed monitor.progress told progress).lost;
}

-- it is logged that a node answers again, that it is up, or that it is down, if that is new
abbrev pub stood_news : NodeMonitor → Status → Option Cause → List Order
stood_news monitor status None =
    answers_news monitor.id (monitor.presence.is_hanging && begins_run monitor.status status)
    ++ up_news monitor.id status.boot (was_up monitor.status)
stood_news monitor status (Some cause) = down_news monitor.id cause monitor.down

-- what is logged
abbrev pub heard_news : NodeMonitor → Status → List Order
heard_news monitor status = elected_news monitor status ++ stood_news monitor status status.down

-- the run in which a node in this state is up, if it is
abbrev pub boot_if : ℕ → Option Cause → Option ℕ
boot_if boot None = Some boot
boot_if boot (Some cause) = None

-- the run in which a node was up when it was last heard from, if it was
abbrev pub boot_up : Option Status → Option ℕ
boot_up None = None
boot_up (Some status) = boot_if status.boot status.down

-- a client that was turned away is logged, once until the node is up again
abbrev pub turned_away_news : NodeMonitor → List Order
turned_away_news monitor = if monitor.visitors.has_turned_away then [] else Log (TurnedAway monitor.id) ∷ []

-- the monitor of a node from which a client was turned away
abbrev pub turned_away : NodeMonitor → NodeMonitor
turned_away monitor = record monitor { visitors = record monitor.visitors { has_turned_away = true } }
