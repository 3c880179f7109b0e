-- No timer of a monitor is later than the driver ran, and no wait is longer than the longest.
use Rattle.std.proofs.Common.{◌≡◌, ℕ, ◌+◌, ◌-◌, ◌*◌, ◌≤◌, Bool, true, false, Option, Some, None, refl, sym, subst, arith}
use Rattle.std.specs.Prelude.{◌^◌, ◌/◌, ◌&&◌, ◌||◌, not, if◌then◌else◌, is_some, max, min, nat_lt}
use Rattle.node_notes.specs.declared.note.Note.TheVariants as note
use Rattle.node_notes.specs.declared.progress.Progress.{Progress}
use Rattle.node_notes.specs.declared.status.Status.{Status}
use Rattle.node_notes.specs.Notes.{leads}
use Rattle.raft_node.specs.declared.node_fault.Cause.{Cause}
use Rattle.driver.specs.declared.driver.Driver.{Driver}
use Rattle.driver.specs.declared.node_monitor.NodeMonitor.{NodeMonitor}
use Rattle.driver.specs.declared.node_monitor.TheConstants.{LONGEST}
use Rattle.driver.specs.declared.node_monitor.hearing.TheConstants.{GOOD_RUN}
use Rattle.driver.specs.declared.node_monitor.standing.Outage.{Outage}
use Rattle.driver.specs.declared.settings.Settings.{Settings}
use Rattle.driver.specs.declared.timer.Timer.{Timer}
use Rattle.driver.specs.Absences.{shortened}
use Rattle.driver.specs.Driving.{clocked}
use Rattle.driver.specs.Hearing.{begins_run, down_behind, heard_behind, is_raised, stood_behind, told_behind, up_behind, wait_behind, was_up}
use Rattle.driver.specs.Monitors.{at, is_over, is_to_beat, monitor_behind, note_for, note_up, patience}
use Rattle.driver.specs.Pacing.{doubled}
use Rattle.driver.specs.Telling.{Ordered}
use Rattle.driver.proofs.Clocks.{woken}
use Rattle.driver.proofs.Moves.{Core, core, hastened_by}

-- how long a node that is down waits at most
abbrev pub longest : Settings → ℕ
longest settings = max LONGEST settings.timeout_ms

-- an outage that the driver knew of when it last ran, with a wait that is not too long
abbrev pub OutageFits : ℕ → ℕ → Option Outage → Type 0
OutageFits ran most None = Unit {0}
OutageFits ran most (Some o) = (o.since.since ≤ ran) × (o.wait_ms ≤ most)

-- What the clock uses is in time.
pub record Timely (n ran : ℕ) (settings : Settings) (c : Core) : Type 0 where
  pub id : c.id ≡ n
  pub first : c.backoff.first ≡ settings.timeout_ms
  pub most : c.backoff.most ≡ LONGEST
  pub next : c.backoff.next ≤ longest settings
  pub beat : c.beat.at.since ≤ ran
  pub heard : c.following.last_leader_contact.since ≤ ran
  pub outage : OutageFits ran (longest settings) c.down

below_both : (a ran now : ℕ) → a ≤ ran → ran ≤ now → a ≤ now
below_both a ran now first last = omega (arith, first, last)

-- the driver was awake
later_fits : (since ran now half : ℕ) → since ≤ ran → ran ≤ now → min (since + ((now - ran) - half)) (2 ^ 64 - 1) ≤ now
later_fits since ran now half before goes = omega (arith, before, goes)

outage_later : (ran now most : ℕ) (down : Option Outage) → ran ≤ now → OutageFits ran most down → OutageFits now most down
outage_later ran now most None goes fits = tt
outage_later ran now most (Some o) goes (since, wait) = (below_both o.since.since ran now since goes, wait)

pub woken_timely : (n now : ℕ) (old : Driver) (d : NodeMonitor) → old.ran.since ≤ now → Timely n old.ran.since old.settings (core d) → Timely n now old.settings (core (woken old now d))
woken_timely n now old d goes t = record {
  id = t.id;
  first = t.first;
  most = t.most;
  next = t.next;
  beat = below_both d.beat.at.since old.ran.since now t.beat goes;
  heard = later_fits d.following.last_leader_contact.since old.ran.since now (old.settings.timeout_ms / 2) t.heard goes;
  outage = outage_later old.ran.since now (longest old.settings) d.down goes t.outage;
}

-- waits are shortened
min_below : (a b most : ℕ) → a ≤ most → min a b ≤ most
min_below a b most fits = omega (arith, fits)

shortened_fits : (ran most : ℕ) (down : Option Outage) → OutageFits ran most down → OutageFits ran most (shortened down)
shortened_fits ran most None fits = tt
shortened_fits ran most (Some o) (since, wait) = (since, min_below o.wait_ms _ most wait)

pub shortened_some : (down : Option Outage) → is_some (shortened down) ≡ is_some down
shortened_some None = refl
shortened_some (Some o) = refl

pub hastened_timely : (n ran : ℕ) (settings : Settings) (short : Bool) (d : NodeMonitor) → Timely n ran settings (core d) → Timely n ran settings (core (hastened_by short d))
hastened_timely n ran settings false d t = t
hastened_timely n ran settings true d t = record {
  id = t.id;
  first = t.first;
  most = t.most;
  next = t.next;
  beat = t.beat;
  heard = t.heard;
  outage = shortened_fits ran (longest settings) d.down t.outage;
}

-- the clock sent the node something

pub same_least : (now : ℕ) → now ≤ now
same_least now = omega (arith)

min_second : (a most timeout : ℕ) → min a most ≤ max most timeout
min_second a most timeout = omega (arith)

doubled_fits : (most wait timeout : ℕ) → most ≡ LONGEST → doubled most wait ≤ max LONGEST timeout
doubled_fits most wait timeout is = subst (λ (most : ℕ). min (wait * 2) most ≤ max LONGEST timeout) (sym is) (min_second (wait * 2) LONGEST timeout)

restarted_timely : (b : Bool) (n now : ℕ) (settings : Settings) (orders : Ordered) (d : NodeMonitor) (o : Outage) → d.down ≡ Some o → Timely n now settings (core d) → Timely n now settings (core (monitor_behind orders d now (if b then Some note.Restart else None)))
unfolding monitor_behind
restarted_timely false n now settings orders d o is t = t
restarted_timely true n now settings orders d o is t = record {
  id = t.id;
  first = t.first;
  most = t.most;
  next = doubled_fits d.backoff.most d.backoff.next settings.timeout_ms t.most;
  beat = t.beat;
  heard = t.heard;
  outage = (same_least now, t.next);
}

up_timely : (leads beats waited : Bool) (n now : ℕ) (settings : Settings) (orders : Ordered) (d : NodeMonitor) (contacts : ℕ) → Timely n now settings (core d) → Timely n now settings (core (monitor_behind orders d now (if leads then (if beats then Some note.Beat else None) else (if waited then Some (note.Timeout contacts) else None))))
unfolding monitor_behind
up_timely true false waited n now settings orders d contacts t = t
up_timely false beats false n now settings orders d contacts t = t
up_timely true true waited n now settings orders d contacts t = record {
  id = t.id;
  first = t.first;
  most = t.most;
  next = t.next;
  beat = same_least now;
  heard = t.heard;
  outage = t.outage;
}
up_timely false beats true n now settings orders d contacts t = record {
  id = t.id;
  first = t.first;
  most = t.most;
  next = t.next;
  beat = t.beat;
  heard = same_least now;
  outage = t.outage;
}

clocked_by : (n now : ℕ) (settings : Settings) (orders : Ordered) (d : NodeMonitor) (status : Option Status) (down : Option Outage) → d.down ≡ down → Timely n now settings (core d) → Timely n now settings (core (monitor_behind orders d now (note_for d settings now status down)))
unfolding note_for note_up monitor_behind
clocked_by n now settings orders d None down is t = t
clocked_by n now settings orders d (Some status) (Some o) is t = restarted_timely (is_over o.since o.wait_ms now) n now settings orders d o is t
clocked_by n now settings orders d (Some status) None is t =
    up_timely (leads status) (is_to_beat d settings now) (is_over d.following.last_leader_contact (patience settings d.id) now) n now settings orders d d.progress.contacts t

pub clocked_timely : (n now : ℕ) (settings : Settings) (orders : Ordered) (d : NodeMonitor) → Timely n now settings (core d) → Timely n now settings (core (clocked orders settings now d))
clocked_timely n now settings orders d t = clocked_by n now settings orders d d.status d.down refl t

-- a report gave its state

since_by : (b : Bool) (now : ℕ) (timer : Timer) → timer.since ≤ now → (if b then at now else timer).since ≤ now
since_by true now timer before = same_least now
since_by false now timer before = before

pub first_fits : (timeout : ℕ) → timeout ≤ max LONGEST timeout
first_fits timeout = omega (arith)

wait_fits : (b : Bool) (first next timeout : ℕ) → first ≡ timeout → next ≤ max LONGEST timeout → (if b then first else next) ≤ max LONGEST timeout
wait_fits true first next timeout is fits = subst (λ (k : ℕ). k ≤ max LONGEST timeout) (sym is) (first_fits timeout)
wait_fits false first next timeout is fits = fits

up_timely_by : (n now : ℕ) (settings : Settings) (d : NodeMonitor) (new up : Bool) → Timely n now settings (core d) → Timely n now settings (core (up_behind d now new up))
up_timely_by n now settings d new true t = record {
  id = t.id;
  first = t.first;
  most = t.most;
  next = t.next;
  beat = t.beat;
  heard = t.heard;
  outage = tt;
}
up_timely_by n now settings d new false t = record {
  id = t.id;
  first = t.first;
  most = t.most;
  next = t.next;
  beat = t.beat;
  heard = same_least now;
  outage = tt;
}

down_timely : (n now : ℕ) (settings : Settings) (d : NodeMonitor) (down : Option Outage) → Timely n now settings (core d) → Timely n now settings (core (down_behind d now down))
down_timely n now settings d (Some since) t = t
down_timely n now settings d None t =
    let wait = wait_fits (is_over d.presence.up GOOD_RUN now) d.backoff.first d.backoff.next settings.timeout_ms t.first t.next in
    record {
      id = t.id;
      first = t.first;
      most = t.most;
      next = doubled_fits d.backoff.most (wait_behind d now) settings.timeout_ms t.most;
      beat = t.beat;
      heard = t.heard;
      outage = (same_least now, wait);
    }

stood_timely : (n now : ℕ) (settings : Settings) (d : NodeMonitor) (new up : Bool) (cause : Option Cause) → Timely n now settings (core d) → Timely n now settings (core (stood_behind d now new up cause))
stood_timely n now settings d new up None t = up_timely_by n now settings d new up t
stood_timely n now settings d new up (Some cause) t = down_timely n now settings d d.down t

told_timely : (n now told : ℕ) (settings : Settings) (status : Status) (progress : Progress) (d : NodeMonitor) → Timely n now settings (core d) → Timely n now settings (core (told_behind d now told status progress))
told_timely n now told settings status progress d t =
    let led = nat_lt d.progress.contacts progress.contacts || leads status in
    record {
      id = t.id;
      first = t.first;
      most = t.most;
      next = t.next;
      beat = t.beat;
      heard = since_by (led || is_raised d.status status && not d.following.has_yielded) now d.following.last_leader_contact t.heard;
      outage = t.outage;
    }

pub heard_timely : (n now told : ℕ) (settings : Settings) (status : Status) (progress : Progress) (d : NodeMonitor) → Timely n now settings (core d) → Timely n now settings (core (heard_behind d now told status progress))
heard_timely n now told settings status progress d t =
    stood_timely n now settings (told_behind d now told status progress) (begins_run d.status status) (was_up d.status) status.down
    (told_timely n now told settings status progress d t)
