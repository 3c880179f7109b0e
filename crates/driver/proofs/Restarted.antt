-- A node that is down is asked to start again in time.
use Rattle.std.proofs.Common.{◌≡◌, ◌∙◌, ◌⊎◌, inl, inr, ℕ, ◌+◌, ◌-◌, ◌<◌, ◌≤◌, Bool, true, false, List, Option, Some, None, refl, sym, ap, subst, ⊎_elim, arith}
use Rattle.std.specs.Prelude.{if◌then◌else◌, is_some, min, nat_le}
use Rattle.std.specs.List.{list_any}
use Rattle.std.proofs.lemmas.Bool.{leb-false, lt-leb}
use Rattle.bouncer_tower.specs.Bodies.{TowerBody}
use Rattle.buffer_commands.specs.declared.wire_line.WireLine.{WireLine}
use Rattle.node_notes.specs.declared.note.Note.{Note}
use Rattle.node_notes.specs.declared.note.Note.TheVariants as note
use Rattle.node_notes.specs.declared.progress.Progress.{Progress}
use Rattle.node_notes.specs.declared.status.Status.{Status}
use Rattle.raft_node.specs.declared.node_fault.Cause.{Cause}
use Rattle.driver.specs.declared.driver.Driver.{Driver}
use Rattle.driver.specs.declared.node_monitor.NodeMonitor.{NodeMonitor}
use Rattle.driver.specs.declared.node_monitor.standing.Outage.{Outage}
use Rattle.driver.specs.declared.order.Order.{Order}
use Rattle.driver.specs.declared.order.Order.TheVariants.{Submit}
use Rattle.driver.specs.declared.settings.Settings.{Settings}
use Rattle.driver.specs.Absences.{shortened}
use Rattle.driver.specs.Calls.{Call}
use Rattle.driver.specs.Driving.{clocked}
use Rattle.driver.specs.Hearing.{begins_run, down_behind, heard_behind, stood_behind, told_behind, was_up}
use Rattle.driver.specs.Links.{status_in}
use Rattle.driver.specs.Monitors.{is_over, monitor_behind, note_at, note_for}
use Rattle.driver.specs.Schedule.{RestartsInTime, restarts, ticks_by}
use Rattle.driver.specs.Telling.{Ordered, ordered, told_to}
use Rattle.driver.proofs.Awaiting.{Advance, Comes, Waits, found_waits, until}
use Rattle.driver.proofs.Claiming.{same_eq}
use Rattle.driver.proofs.Clocks.{Clocks, woken}
use Rattle.driver.proofs.Events.{clock_tells, not_passed}
use Rattle.driver.proofs.Events.{Idle, Hastened, Other, Own, Passed}
use Rattle.driver.proofs.Monitors.{Look}
use Rattle.driver.proofs.Moves.{Base, Core, core, hastened_by}
use Rattle.driver.proofs.Reporting.{heard_look}
use Rattle.driver.proofs.Staying.{is_down_so}
use Rattle.driver.proofs.Timers.{OutageFits, longest}
use Rattle.driver.proofs.Timely.{running}

-- A node that is down waits at most to this moment.
pub record IsDown (n moment : ℕ) (c : Core) : Type 0 where
  pub id : c.id ≡ n
  pub outage : Outage
  pub is_outage : c.down ≡ Some outage
  pub status : Status
  pub is_status : c.status ≡ Some status
  pub is_down : is_some status.down ≡ true
  pub in_time : outage.since.since + outage.wait_ms ≤ moment

shorter : (since wait short moment : ℕ) → since + wait ≤ moment → since + min wait short ≤ moment
shorter since wait short moment fits = omega (arith, fits)

hastened_down : (n moment : ℕ) (short : Bool) (d : NodeMonitor) → IsDown n moment (core d) → IsDown n moment (core (hastened_by short d))
hastened_down n moment false d w = w
hastened_down n moment true d w = record {
  id = w.id;
  outage = record w.outage { wait_ms = min w.outage.wait_ms _ };
  is_outage = ap shortened w.is_outage;
  status = w.status;
  is_status = w.is_status;
  is_down = w.is_down;
  in_time = shorter w.outage.since.since w.outage.wait_ms _ moment w.in_time;
}

-- the driver was awake
woken_down : (n moment now : ℕ) (old : Driver) (d : NodeMonitor) → IsDown n moment (core d) → IsDown n moment (core (woken old now d))
woken_down n moment now old d w = record {
  id = w.id;
  outage = w.outage;
  is_outage = w.is_outage;
  status = w.status;
  is_status = w.is_status;
  is_down = w.is_down;
  in_time = w.in_time;
}

-- a node that is down reports so again
down_kept : (d : NodeMonitor) (now : ℕ) (down : Option Outage) (o : Outage) → d.down ≡ down → down ≡ Some o → (down_behind d now down).down ≡ Some o
down_kept d now None o is so = absurd (cc so)
down_kept d now (Some since) o is so = is ∙ so

stood_down : (d : NodeMonitor) (now : ℕ) (new up : Bool) (cause : Option Cause) (o : Outage) → is_some cause ≡ true → d.down ≡ Some o → (stood_behind d now new up cause).down ≡ Some o
stood_down d now new up None o so is = absurd (cc so)
stood_down d now new up (Some cause) o so is = down_kept d now d.down o refl is

heard_down : (n moment now told : ℕ) (status : Status) (progress : Progress) (d : NodeMonitor) → is_some status.down ≡ true → IsDown n moment (core d) → IsDown n moment (core (heard_behind d now told status progress))
heard_down n moment now told status progress d so w = record {
  id = ap (λ (x : Look). x.id) (heard_look d now told status progress) ∙ w.id;
  outage = w.outage;
  is_outage = stood_down (told_behind d now told status progress) now (begins_run d.status status) (was_up d.status) status.down w.outage so w.is_outage;
  status = status;
  is_status = ap (λ (x : Look). x.status) (heard_look d now told status progress);
  is_down = so;
  in_time = w.in_time;
}

-- the note that the clock sends it
note_down : (d : NodeMonitor) (settings : Settings) (now : ℕ) (status : Status) (o : Outage) → d.status ≡ Some status → d.down ≡ Some o → note_at d settings now ≡ (if is_over o.since o.wait_ms now then Some note.Restart else None)
unfolding note_for
note_down d settings now status o is down =
    ap (λ (status : Option Status). note_for d settings now status d.down) is ∙ ap (λ (down : Option Outage). note_for d settings now (Some status) down) down

pub none_behind : (orders : Ordered) (settings : Settings) (now : ℕ) (d : NodeMonitor) → note_at d settings now ≡ None → core (clocked orders settings now d) ≡ core d
unfolding monitor_behind
none_behind orders settings now d none = ap (λ (came : Option (Note TowerBody WireLine)). core (monitor_behind orders d now came)) none

early : (since wait now moment : ℕ) → now - since < wait → since + wait ≤ moment → now < moment
early since wait now moment before fits = omega (arith, before, fits)

-- After the clock it was asked to start again, or waits on.
abbrev pub Ticks : ℕ → ℕ → Settings → List Order → ℕ → Driver → Type 0
Ticks n moment settings told now new = (list_any (restarts n) told ≡ true) ⊎ ((nat_le moment now ≡ false) × Waits n (IsDown n moment) settings new)

clock_by : (n moment now : ℕ) (settings : Settings) (d : NodeMonitor) (old new : Driver) (given : List Order) (c : Clocks n now settings d old new) (w : IsDown n moment (core c.own)) (over : Bool) → is_over w.outage.since w.outage.wait_ms now ≡ over → new.settings ≡ settings → new.orders ≡ ordered old.orders given → Ticks n moment settings given now new
clock_by n moment now settings d old new given c w true is goes_by orders =
    let told = note_down c.own settings now w.status w.outage w.is_status w.is_outage ∙ ap (λ (b : Bool). if b then Some note.Restart else None) is in
    inl (clock_tells n now settings d old new given (restarts n) note.Restart c orders told (subst (λ (k : ℕ). restarts n (Submit k note.Restart) ≡ true) (sym w.id) (same_eq n)))
clock_by n moment now settings d old new given c w false is goes_by orders =
    let none = note_down c.own settings now w.status w.outage w.is_status w.is_outage ∙ ap (λ (b : Bool). if b then Some note.Restart else None) is in
    let before = early w.outage.since.since w.outage.wait_ms now moment (leb-false w.outage.wait_ms (now - w.outage.since.since) is) w.in_time in
    inr (
      lt-leb moment now before,
      record {
        own = c.behind;
        is = c.is;
        waits = subst (λ (k : Core). IsDown n moment k) (sym (c.same ∙ none_behind c.before settings now c.own none)) w;
        goes_by = goes_by;
      },
    )

clock_down : (n moment now : ℕ) (settings : Settings) (d : NodeMonitor) (old new : Driver) (given : List Order) → Clocks n now settings d old new → IsDown n moment (core d) → new.settings ≡ settings → new.orders ≡ ordered old.orders given → Ticks n moment settings given now new
clock_down n moment now settings d old new given c w goes_by orders =
    let own = subst (λ (k : Core). IsDown n moment k) (sym c.from) w in
    clock_by n moment now settings d old new given c own (is_over own.outage.since own.outage.wait_ms now) refl goes_by orders

-- a call that is no tick does not pass to the moment
own_comes : (n moment now : ℕ) (settings : Settings) (call : Call) (told : List Order) (new : Driver) → ticks_by moment call ≡ false → Ticks n moment settings told now new → Comes n (IsDown n moment) (restarts n) moment settings call told new
own_comes n moment now settings call told new quiet t = ⊎_elim (λ told. inl told) (λ waits. inr (quiet, waits.1)) t

tick_comes : (n moment now : ℕ) (settings : Settings) (call : Call) (told : List Order) (new : Driver) → ticks_by moment call ≡ nat_le moment now → Ticks n moment settings told now new → Comes n (IsDown n moment) (restarts n) moment settings call told new
tick_comes n moment now settings call told new is t = ⊎_elim (λ told. inl told) (λ waits. inr (is ∙ waits.0, waits.1)) t

abbrev pub tells_down : Status → Progress → Bool
tells_down told progress = is_some told.down

advance : (n moment : ℕ) (settings : Settings) → Advance n (IsDown n moment) (restarts n) tells_down moment settings
advance n moment settings call told d old new goes_by w fit is (Idle ran quiet r f) =
    inr (not_passed moment call quiet, found_waits n (IsDown n moment) settings d new (ap (λ (b : Base). b.settings) r.based ∙ goes_by) f w)
advance n moment settings call told d old new goes_by w fit is (Hastened ran quiet h) =
    inr (not_passed moment call quiet, found_waits n (IsDown n moment) settings (hastened_by h.short d) new (ap (λ (b : Base). b.settings) h.based ∙ goes_by) h.found (hastened_down n moment h.short d w))
advance n moment settings call told d old new goes_by w fit is (Other now ran quiet o) =
    inr (not_passed moment call quiet, found_waits n (IsDown n moment) settings (woken old now d) new (ap (λ (b : Base). b.settings) o.based ∙ goes_by) o.found (woken_down n moment now old d w))
advance n moment settings call told d old new goes_by w fit is (Own now status progress ran quiet said given h) =
    let c = subst (λ (s : Settings). Clocks n now s (heard_behind (woken old now d) now (told_to h.heard d.id) status progress) old new) goes_by h.clocks in
    own_comes n moment now settings call told new (not_passed moment call quiet)
    (clock_down n moment now settings (heard_behind (woken old now d) now (told_to h.heard d.id) status progress) old new told c
    (heard_down n moment now (told_to h.heard d.id) status progress (woken old now d) (said tells_down fit) (woken_down n moment now old d w))
    (ap (λ (b : Base). b.settings) h.based ∙ goes_by) (given told is))
advance n moment settings call told d old new goes_by w fit is (Passed now ran ticks given t) =
    let c = subst (λ (s : Settings). Clocks n now s (woken old now d) old new) goes_by t.clocks in
    tick_comes n moment now settings call told new (ticks moment)
    (clock_down n moment now settings (woken old now d) old new told c (woken_down n moment now old d w) (ap (λ (b : Base). b.settings) t.based ∙ goes_by) (given told is))

-- at the beginning

abbrev pub or_status : Status → Option Status → Status
or_status status None = status
or_status status (Some other) = other

down_fits : (since ran wait most : ℕ) → since ≤ ran → wait ≤ most → since + wait ≤ ran + most
down_fits since ran wait most first last = omega (arith, first, last)

begins_by : (n ran : ℕ) (settings : Settings) (d : NodeMonitor) (status : Status) (down : Option Outage) → d.down ≡ down → d.id ≡ n → d.status ≡ Some status → is_some status.down ≡ true → is_some down ≡ true → OutageFits ran (longest settings) down → IsDown n (ran + longest settings) (core d)
begins_by n ran settings d status None is id so told none fits = absurd (cc none)
begins_by n ran settings d status (Some o) is id so told some (since, wait) = record {
  id = id;
  outage = o;
  is_outage = is;
  status = status;
  is_status = so;
  is_down = told;
  in_time = down_fits o.since.since ran o.wait_ms (longest settings) since wait;
}

pub restarts_in_time : RestartsInTime
restarts_in_time node status steps old new r so down passed =
    let i = running node old r.low r.high r.is_running in
    let here : i.own.status ≡ Some status = ap status_in (sym i.is) ∙ so in
    let told : is_some i.own.down ≡ true = i.stands ∙ ap is_down_so here ∙ down in
    let w = begins_by node old.ran.since old.settings i.own status i.own.down refl i.timely.id here down told i.timely.outage in
    until node (IsDown node (old.ran.since + longest old.settings)) (restarts node) tells_down (old.ran.since + longest old.settings) old.settings
    (advance node (old.ran.since + longest old.settings) old.settings) steps old new r.low r.high i.sound
    (record { own = i.own; is = i.is; waits = w; goes_by = refl }) r.fit r.does passed
