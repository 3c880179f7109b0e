-- A leader is asked to send in time.
use Rattle.std.proofs.Common.{◌≡◌, ◌∙◌, ◌⊎◌, inl, inr, ℕ, ◌+◌, ◌-◌, ◌<◌, ◌≤◌, Bool, true, false, List, Option, Some, None, refl, sym, ap, subst, ⊎_elim, arith}
use Rattle.std.specs.Prelude.{◌&&◌, if◌then◌else◌, is_some, max, min, nat_le}
use Rattle.std.specs.List.{list_any}
use Rattle.std.proofs.lemmas.Bool.{le-leb, leb-false, lt-leb}
use Rattle.node_notes.specs.declared.note.Note.TheVariants as note
use Rattle.node_notes.specs.declared.progress.Progress.{Progress}
use Rattle.node_notes.specs.declared.status.Status.{Status}
use Rattle.node_notes.specs.Notes.{leads, leads_up}
use Rattle.raft_log.specs.declared.role.Role.{Role}
use Rattle.raft_log.specs.declared.role.Role.TheVariants.{Candidate, Follower, Leader}
use Rattle.raft_node.specs.declared.node_fault.Cause.{Cause}
use Rattle.driver.specs.declared.driver.Driver.{Driver}
use Rattle.driver.specs.declared.node_monitor.NodeMonitor.{NodeMonitor}
use Rattle.driver.specs.declared.node_monitor.standing.Outage.{Outage}
use Rattle.driver.specs.declared.order.Order.{Order}
use Rattle.driver.specs.declared.order.Order.TheVariants.{Submit}
use Rattle.driver.specs.declared.settings.Settings.{Settings}
use Rattle.driver.specs.Absences.{shortened}
use Rattle.driver.specs.Calls.{Call}
use Rattle.driver.specs.Hearing.{begins_run, heard_behind, stood_behind, told_behind, up_behind, was_up}
use Rattle.driver.specs.Links.{status_in}
use Rattle.driver.specs.Monitors.{is_over, is_to_beat, note_at, note_for, note_up, patience}
use Rattle.driver.specs.Reports.{done_in}
use Rattle.driver.specs.Schedule.{BeatsInTime, beats, ticks_by}
use Rattle.driver.specs.Telling.{ordered, told_to}
use Rattle.driver.proofs.Awaiting.{Advance, Comes, Waits, found_waits, until}
use Rattle.driver.proofs.Claiming.{same_eq}
use Rattle.driver.proofs.Clocks.{Clocks, woken}
use Rattle.driver.proofs.Events.{Hastened, Idle, Other, Own, Passed, clock_tells, not_passed}
use Rattle.driver.proofs.Moves.{Base, Core, core, hastened_by}
use Rattle.driver.proofs.Restarted.{none_behind}
use Rattle.driver.proofs.Staying.{is_down_so}
use Rattle.driver.proofs.Noted.{both_below, running_noted, told_is}

-- A node leads, its last beat is done, and the next is due at this moment at the latest.
pub record IsDue (n moment beat_ms : ℕ) (c : Core) : Type 0 where
  pub id : c.id ≡ n
  pub is_up : c.down ≡ None
  pub status : Status
  pub is_status : c.status ≡ Some status
  pub is_leader : leads status ≡ true
  pub done : c.beat.note ≤ c.progress.done
  pub in_time : c.beat.at.since + beat_ms ≤ moment

hastened_due : (n moment beat_ms : ℕ) (short : Bool) (d : NodeMonitor) → IsDue n moment beat_ms (core d) → IsDue n moment beat_ms (core (hastened_by short d))
hastened_due n moment beat_ms false d w = w
hastened_due n moment beat_ms true d w = record {
  id = w.id;
  is_up = ap shortened w.is_up;
  status = w.status;
  is_status = w.is_status;
  is_leader = w.is_leader;
  done = w.done;
  in_time = w.in_time;
}

woken_due : (n moment beat_ms now : ℕ) (old : Driver) (d : NodeMonitor) → IsDue n moment beat_ms (core d) → IsDue n moment beat_ms (core (woken old now d))
woken_due n moment beat_ms now old d w = record {
  id = w.id;
  is_up = w.is_up;
  status = w.status;
  is_status = w.is_status;
  is_leader = w.is_leader;
  done = w.done;
  in_time = w.in_time;
}

-- a leader is up
pub leads_none : (role : Role) (down : Option Cause) → leads_up role down ≡ true → is_some down ≡ false
leads_none Leader None is = refl
leads_none Leader (Some cause) is = absurd (cc is)
leads_none Follower down is = absurd (cc is)
leads_none Candidate down is = absurd (cc is)

further : (note done heard : ℕ) → note ≤ done → note ≤ max done heard
further note done heard is = omega (arith, is)

up_due : (n moment beat_ms now : ℕ) (status : Status) (m : NodeMonitor) (new up : Bool) → m.id ≡ n → m.status ≡ Some status → leads status ≡ true → m.beat.note ≤ m.progress.done → m.beat.at.since + beat_ms ≤ moment → IsDue n moment beat_ms (core (up_behind m now new up))
up_due n moment beat_ms now status m new true id is leads done in_time = record {
  id = id;
  is_up = refl;
  status = status;
  is_status = is;
  is_leader = leads;
  done = done;
  in_time = in_time;
}
up_due n moment beat_ms now status m new false id is leads done in_time = record {
  id = id;
  is_up = refl;
  status = status;
  is_status = is;
  is_leader = leads;
  done = done;
  in_time = in_time;
}

stood_due : (n moment beat_ms now : ℕ) (status : Status) (m : NodeMonitor) (new up : Bool) (cause : Option Cause) → is_some cause ≡ false → m.id ≡ n → m.status ≡ Some status → leads status ≡ true → m.beat.note ≤ m.progress.done → m.beat.at.since + beat_ms ≤ moment → IsDue n moment beat_ms (core (stood_behind m now new up cause))
stood_due n moment beat_ms now status m new up None so id is leads done in_time = up_due n moment beat_ms now status m new up id is leads done in_time
stood_due n moment beat_ms now status m new up (Some cause) so id is leads done in_time = absurd (cc so)

heard_due : (n moment beat_ms now told : ℕ) (status : Status) (progress : Progress) (d : NodeMonitor) → leads status ≡ true → IsDue n moment beat_ms (core d) → IsDue n moment beat_ms (core (heard_behind d now told status progress))
heard_due n moment beat_ms now told status progress d so w =
    stood_due n moment beat_ms now status (told_behind d now told status progress) (begins_run d.status status) (was_up d.status) status.down
    (leads_none status.role status.down so) w.id refl so
    (further d.beat.note d.progress.done (min progress.done told) w.done) w.in_time

-- the note that the clock sends it
pub note_leader : (d : NodeMonitor) (settings : Settings) (now : ℕ) (status : Status) → d.status ≡ Some status → d.down ≡ None → leads status ≡ true → note_at d settings now ≡ (if is_to_beat d settings now then Some note.Beat else None)
unfolding note_for note_up
note_leader d settings now status is up leader =
    ap (λ (status : Option Status). note_for d settings now status d.down) is
    ∙ ap (λ (down : Option Outage). note_for d settings now (Some status) down) up
    ∙ ap (λ (b : Bool). if b then (if is_to_beat d settings now then Some note.Beat else None) else (if is_over d.following.last_leader_contact (patience settings d.id) now then Some (note.Timeout d.progress.contacts) else None)) leader

due_so : (over : Bool) (note done : ℕ) → note ≤ done → (over && nat_le note done) ≡ over
due_so true note done is = le-leb note done is
due_so false note done is = refl

early : (since wait now moment : ℕ) → now - since < wait → since + wait ≤ moment → now < moment
early since wait now moment before fits = omega (arith, before, fits)

abbrev pub Ticks : ℕ → ℕ → ℕ → Settings → List Order → ℕ → Driver → Type 0
Ticks n moment beat_ms settings told now new = (list_any (beats n) told ≡ true) ⊎ ((nat_le moment now ≡ false) × Waits n (IsDue n moment beat_ms) settings new)

clock_by : (n moment now : ℕ) (settings : Settings) (d : NodeMonitor) (old new : Driver) (given : List Order) (c : Clocks n now settings d old new) (w : IsDue n moment settings.beat_ms (core c.own)) (over : Bool) → is_over c.own.beat.at settings.beat_ms now ≡ over → new.settings ≡ settings → new.orders ≡ ordered old.orders given → Ticks n moment settings.beat_ms settings given now new
clock_by n moment now settings d old new given c w true is goes_by orders =
    let told =
    note_leader c.own settings now w.status w.is_status w.is_up w.is_leader
    ∙ ap (λ (b : Bool). if b then Some note.Beat else None) (due_so (is_over c.own.beat.at settings.beat_ms now) c.own.beat.note c.own.progress.done w.done ∙ is)
    in
    inl (clock_tells n now settings d old new given (beats n) note.Beat c orders told (subst (λ (k : ℕ). beats n (Submit k note.Beat) ≡ true) (sym w.id) (same_eq n)))
clock_by n moment now settings d old new given c w false is goes_by orders =
    let none =
    note_leader c.own settings now w.status w.is_status w.is_up w.is_leader
    ∙ ap (λ (b : Bool). if b then Some note.Beat else None) (due_so (is_over c.own.beat.at settings.beat_ms now) c.own.beat.note c.own.progress.done w.done ∙ is)
    in
    let before = early c.own.beat.at.since settings.beat_ms now moment (leb-false settings.beat_ms (now - c.own.beat.at.since) is) w.in_time in
    inr (
      lt-leb moment now before,
      record {
        own = c.behind;
        is = c.is;
        waits = subst (λ (k : Core). IsDue n moment settings.beat_ms k) (sym (c.same ∙ none_behind c.before settings now c.own none)) w;
        goes_by = goes_by;
      },
    )

pub clock_due : (n moment now : ℕ) (settings : Settings) (d : NodeMonitor) (old new : Driver) (given : List Order) → Clocks n now settings d old new → IsDue n moment settings.beat_ms (core d) → new.settings ≡ settings → new.orders ≡ ordered old.orders given → Ticks n moment settings.beat_ms settings given now new
clock_due n moment now settings d old new given c w goes_by orders =
    let own = subst (λ (k : Core). IsDue n moment settings.beat_ms k) (sym c.from) w in
    clock_by n moment now settings d old new given c own (is_over c.own.beat.at settings.beat_ms now) refl goes_by orders

own_comes : (n moment now : ℕ) (settings : Settings) (call : Call) (told : List Order) (new : Driver) → ticks_by moment call ≡ false → Ticks n moment settings.beat_ms settings told now new → Comes n (IsDue n moment settings.beat_ms) (beats n) moment settings call told new
own_comes n moment now settings call told new quiet t = ⊎_elim (λ told. inl told) (λ waits. inr (quiet, waits.1)) t

tick_comes : (n moment now : ℕ) (settings : Settings) (call : Call) (told : List Order) (new : Driver) → ticks_by moment call ≡ nat_le moment now → Ticks n moment settings.beat_ms settings told now new → Comes n (IsDue n moment settings.beat_ms) (beats n) moment settings call told new
tick_comes n moment now settings call told new is t = ⊎_elim (λ told. inl told) (λ waits. inr (is ∙ waits.0, waits.1)) t

abbrev pub tells_leading : Status → Progress → Bool
tells_leading told progress = leads told

pub advance : (n moment : ℕ) (settings : Settings) → Advance n (IsDue n moment settings.beat_ms) (beats n) tells_leading moment settings
advance n moment settings call told d old new goes_by w fit is (Idle ran quiet r f) =
    inr (not_passed moment call quiet, found_waits n (IsDue n moment settings.beat_ms) settings d new (ap (λ (b : Base). b.settings) r.based ∙ goes_by) f w)
advance n moment settings call told d old new goes_by w fit is (Hastened ran quiet h) =
    inr (not_passed moment call quiet, found_waits n (IsDue n moment settings.beat_ms) settings (hastened_by h.short d) new (ap (λ (b : Base). b.settings) h.based ∙ goes_by) h.found (hastened_due n moment settings.beat_ms h.short d w))
advance n moment settings call told d old new goes_by w fit is (Other now ran quiet o) =
    inr (not_passed moment call quiet, found_waits n (IsDue n moment settings.beat_ms) settings (woken old now d) new (ap (λ (b : Base). b.settings) o.based ∙ goes_by) o.found (woken_due n moment settings.beat_ms now old d w))
advance n moment settings call told d old new goes_by w fit is (Own now status progress ran quiet said given h) =
    let c = subst (λ (s : Settings). Clocks n now s (heard_behind (woken old now d) now (told_to h.heard d.id) status progress) old new) goes_by h.clocks in
    own_comes n moment now settings call told new (not_passed moment call quiet)
    (clock_due n moment now settings (heard_behind (woken old now d) now (told_to h.heard d.id) status progress) old new told c
    (heard_due n moment settings.beat_ms now (told_to h.heard d.id) status progress (woken old now d) (said tells_leading fit) (woken_due n moment settings.beat_ms now old d w))
    (ap (λ (b : Base). b.settings) h.based ∙ goes_by) (given told is))
advance n moment settings call told d old new goes_by w fit is (Passed now ran ticks given t) =
    let c = subst (λ (s : Settings). Clocks n now s (woken old now d) old new) goes_by t.clocks in
    tick_comes n moment now settings call told new (ticks moment)
    (clock_due n moment now settings (woken old now d) old new told c (woken_due n moment settings.beat_ms now old d w) (ap (λ (b : Base). b.settings) t.based ∙ goes_by) (given told is))

-- at the beginning

pub none_is : (down : Option Outage) → is_some down ≡ false → down ≡ None
none_is None so = refl
none_is (Some o) so = absurd (cc so)

pub sooner : (since ran wait : ℕ) → since ≤ ran → since + wait ≤ ran + wait
sooner since ran wait before = omega (arith, before)

pub beats_in_time : BeatsInTime
beats_in_time node status steps old new r so leader done passed =
    let noted = running_noted node old r.low r.high r.is_running in
    let i = noted.in_time in
    let here : i.own.status ≡ Some status = ap status_in (sym i.is) ∙ so in
    let up : is_some i.own.down ≡ false = i.stands ∙ ap is_down_so here ∙ leads_none status.role status.down leader in
    let all : told_to old.orders node ≤ i.own.progress.done = subst (λ (k : ℕ). told_to old.orders node ≤ k) (ap done_in i.is) done in
    let w : IsDue node (old.ran.since + old.settings.beat_ms) old.settings.beat_ms (core i.own) = record {
      id = i.timely.id;
      is_up = none_is i.own.down up;
      status = status;
      is_status = here;
      is_leader = leader;
      done =
          both_below i.own.beat.note (told_to old.orders node) i.own.progress.done
          (subst (λ (k : ℕ). i.own.beat.note ≤ k) (sym (told_is node old.orders)) noted.beat) all;
      in_time = sooner i.own.beat.at.since old.ran.since old.settings.beat_ms i.timely.beat;
    } in
    until node (IsDue node (old.ran.since + old.settings.beat_ms) old.settings.beat_ms) (beats node) tells_leading (old.ran.since + old.settings.beat_ms) old.settings
    (advance node (old.ran.since + old.settings.beat_ms) old.settings) steps old new r.low r.high i.sound
    (record { own = i.own; is = i.is; waits = w; goes_by = refl }) r.fit r.does passed
