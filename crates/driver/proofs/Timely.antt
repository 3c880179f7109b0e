-- What holds for each monitor of a driver as time goes on.
use Rattle.std.proofs.Common.{◌≡◌, ◌∙◌, ℕ, zero, suc, ◌-◌, ◌≤◌, Bool, true, false, List, [], ◌∷◌, Option, Some, None, refl, sym, ap, subst, slice_get, arith}
use Rattle.std.specs.Prelude.{if◌then◌else◌, is_some}
use Rattle.node_notes.specs.declared.note.Note.TheVariants as note
use Rattle.node_notes.specs.declared.progress.Progress.{Progress}
use Rattle.node_notes.specs.declared.status.Status.{Status}
use Rattle.node_notes.specs.Notes.{leads}
use Rattle.driver.specs.declared.driver.Driver.{Driver}
use Rattle.driver.specs.declared.node_monitor.NodeMonitor.{NodeMonitor}
use Rattle.driver.specs.declared.node_monitor.standing.Outage.{Outage}
use Rattle.driver.specs.declared.settings.Settings.{Settings}
use Rattle.driver.specs.declared.timer.Timer.{Timer}
use Rattle.driver.specs.declared.order.Order.{Order}
use Rattle.driver.specs.Arriving.{IsNewDriver, new_monitors}
use Rattle.driver.specs.Calls.{Call, Does, DoesAll, IsTold, Step}
use Rattle.driver.specs.Driving.{clocked}
use Rattle.driver.specs.Hearing.{heard_behind}
use Rattle.driver.specs.Monitors.{is_over, is_to_beat, monitor_behind, new_monitor, note_for, note_up, patience}
use Rattle.driver.specs.Schedule.{GoesOn, IsRunning, ran_by}
use Rattle.driver.specs.Telling.{Ordered, told_to}
use Rattle.driver.specs.Waking.{awake}
use Rattle.driver.proofs.Clocks.{Clocks, woken}
use Rattle.driver.proofs.Events.{Event, event}
use Rattle.driver.proofs.Events.{Idle, Hastened, Other, Own, Passed}
use Rattle.driver.proofs.Falling.{heard_stands}
use Rattle.driver.proofs.Keeping.{Sound}
use Rattle.driver.proofs.Moves.{Base, Core, Found, base, core, hastened_by}
use Rattle.driver.proofs.OneClaim.{new_sound, outcome}
use Rattle.driver.proofs.Staying.{is_down_so}
use Rattle.driver.proofs.Timers.{Timely, clocked_timely, first_fits, hastened_timely, heard_timely, same_least, shortened_some, woken_timely}

-- A node is known to be down if it reported so, and to be up else.

abbrev pub Stands : Core → Type 0
Stands c = is_some c.down ≡ is_down_so c.status

hastened_stands : (short : Bool) (d : NodeMonitor) → Stands (core d) → Stands (core (hastened_by short d))
hastened_stands false d s = s
hastened_stands true d s = shortened_some d.down ∙ s

restarted_stands : (b : Bool) (now : ℕ) (orders : Ordered) (d : NodeMonitor) (o : Outage) → d.down ≡ Some o → Stands (core d) → Stands (core (monitor_behind orders d now (if b then Some note.Restart else None)))
unfolding monitor_behind
restarted_stands false now orders d o is s = s
restarted_stands true now orders d o is s = sym (ap (λ (down : Option Outage). is_some down) is) ∙ s

up_stands : (leads beats waited : Bool) (now : ℕ) (orders : Ordered) (d : NodeMonitor) (contacts : ℕ) → Stands (core d) → Stands (core (monitor_behind orders d now (if leads then (if beats then Some note.Beat else None) else (if waited then Some (note.Timeout contacts) else None))))
unfolding monitor_behind
up_stands true false waited now orders d contacts s = s
up_stands false beats false now orders d contacts s = s
up_stands true true waited now orders d contacts s = s
up_stands false beats true now orders d contacts s = s

clocked_stands_by : (now : ℕ) (settings : Settings) (orders : Ordered) (d : NodeMonitor) (status : Option Status) (down : Option Outage) → d.down ≡ down → Stands (core d) → Stands (core (monitor_behind orders d now (note_for d settings now status down)))
unfolding note_for note_up monitor_behind
clocked_stands_by now settings orders d None down is s = s
clocked_stands_by now settings orders d (Some status) (Some o) is s = restarted_stands (is_over o.since o.wait_ms now) now orders d o is s
clocked_stands_by now settings orders d (Some status) None is s =
    up_stands (leads status) (is_to_beat d settings now) (is_over d.following.last_leader_contact (patience settings d.id) now) now orders d d.progress.contacts s

clocked_stands : (now : ℕ) (settings : Settings) (orders : Ordered) (d : NodeMonitor) → Stands (core d) → Stands (core (clocked orders settings now d))
clocked_stands now settings orders d s = clocked_stands_by now settings orders d d.status d.down refl s

heard_stands_so : (now told : ℕ) (status : Status) (progress : Progress) (d : NodeMonitor) → Stands (core (heard_behind d now told status progress))
heard_stands_so now told status progress d = let (here, so) = heard_stands d now told status progress in here ∙ sym so

-- What holds for a node that has a monitor.
pub record InTime (n : ℕ) (driver : Driver) : Type 0 where
  pub own : NodeMonitor
  pub is : slice_get driver.monitors (n - 1) ≡ Some own
  pub sound : Sound n driver
  pub timely : Timely n driver.ran.since driver.settings (core own)
  pub stands : Stands (core own)

-- if the driver's settings are the same
based_timely : (n : ℕ) (c : Core) (old new : Driver) → base new ≡ base old → Timely n old.ran.since old.settings c → Timely n new.ran.since new.settings c
based_timely n c old new based t = subst (λ (b : Base). Timely n b.ran.since b.settings c) (sym based) t

moved_timely : (n now : ℕ) (c : Core) (old new : Driver) → base new ≡ base (awake now old) → Timely n now old.settings c → Timely n new.ran.since new.settings c
moved_timely n now c old new based t = subst (λ (b : Base). Timely n b.ran.since b.settings c) (sym based) t

found_in_time : (n : ℕ) (d : NodeMonitor) (new : Driver) → Found n d new → Sound n new → Timely n new.ran.since new.settings (core d) → Stands (core d) → InTime n new
found_in_time n d new f sound t s = record {
  own = f.behind;
  is = f.is;
  sound = sound;
  timely = subst (λ (c : Core). Timely n new.ran.since new.settings c) (sym f.same) t;
  stands = subst (λ (c : Core). Stands c) (sym f.same) s;
}

clock_in_time : (n now : ℕ) (d : NodeMonitor) (old new : Driver) → Clocks n now old.settings d old new → base new ≡ base (awake now old) → Sound n new → Timely n now old.settings (core d) → Stands (core d) → InTime n new
clock_in_time n now d old new c based sound t s =
    let own = subst (λ (k : Core). Timely n now old.settings k) (sym c.from) t in
    let stands = subst (λ (k : Core). Stands k) (sym c.from) s in
    let clocked_t = clocked_timely n now old.settings c.before c.own own in
    record {
      own = c.behind;
      is = c.is;
      sound = sound;
      timely = moved_timely n now (core c.behind) old new based (subst (λ (k : Core). Timely n now old.settings k) (sym c.same) clocked_t);
      stands = subst (λ (k : Core). Stands k) (sym c.same) (clocked_stands now old.settings c.before c.own stands);
    }

-- a call keeps it
pub event_in_time : (n : ℕ) (call : Call) (old new : Driver) → (i : InTime n old) → Sound n new → old.ran.since ≤ ran_by old.ran.since call → Event n call i.own old new → InTime n new
event_in_time n call old new i sound goes (Idle ran quiet r f) =
    found_in_time n i.own new f sound (based_timely n (core i.own) old new r.based i.timely) i.stands
event_in_time n call old new i sound goes (Hastened ran quiet h) =
    found_in_time n (hastened_by h.short i.own) new h.found sound
    (based_timely n (core (hastened_by h.short i.own)) old new h.based (hastened_timely n old.ran.since old.settings h.short i.own i.timely))
    (hastened_stands h.short i.own i.stands)
event_in_time n call old new i sound goes (Other now ran quiet o) =
    found_in_time n (woken old now i.own) new o.found sound
    (moved_timely n now (core (woken old now i.own)) old new o.based
    (woken_timely n now old i.own (subst (λ (k : ℕ). old.ran.since ≤ k) (ran old.ran.since) goes) i.timely))
    i.stands
event_in_time n call old new i sound goes (Own now status progress ran quiet said given h) =
    let up = woken old now i.own in
    let told = told_to h.heard i.own.id in
    clock_in_time n now (heard_behind up now told status progress) old new h.clocks h.based sound
    (heard_timely n now told old.settings status progress up (woken_timely n now old i.own (subst (λ (k : ℕ). old.ran.since ≤ k) (ran old.ran.since) goes) i.timely))
    (heard_stands_so now told status progress up)
event_in_time n call old new i sound goes (Passed now ran ticks given t) =
    clock_in_time n now (woken old now i.own) old new t.clocks t.based sound
    (woken_timely n now old i.own (subst (λ (k : ℕ). old.ran.since ≤ k) (ran old.ran.since) goes) i.timely)
    i.stands

pub call_in_time : (n : ℕ) (call : Call) (told : List Order) (old new : Driver) → 1 ≤ n → n ≤ 7 → InTime n old → old.ran.since ≤ ran_by old.ran.since call → Does call old new → IsTold call told old.orders new.orders → InTime n new
call_in_time n call told old new low high i goes does is =
    event_in_time n call old new i (outcome n call told old new low i.sound does is).sound goes (event n call i.own old new low high i.sound i.is does)

-- when the driver last ran
ran_is : (n : ℕ) (call : Call) (d : NodeMonitor) (old new : Driver) → Event n call d old new → new.ran.since ≡ ran_by old.ran.since call
ran_is n call d old new (Idle ran quiet r f) = ap (λ (b : Base). b.ran.since) r.based ∙ sym (ran old.ran.since)
ran_is n call d old new (Hastened ran quiet h) = ap (λ (b : Base). b.ran.since) h.based ∙ sym (ran old.ran.since)
ran_is n call d old new (Other now ran quiet o) = ap (λ (b : Base). b.ran.since) o.based ∙ sym (ran old.ran.since)
ran_is n call d old new (Own now status progress ran quiet said given h) = ap (λ (b : Base). b.ran.since) h.based ∙ sym (ran old.ran.since)
ran_is n call d old new (Passed now ran ticks given t) = ap (λ (b : Base). b.ran.since) t.based ∙ sym (ran old.ran.since)

pub call_ran : (n : ℕ) (call : Call) (old new : Driver) → 1 ≤ n → n ≤ 7 → InTime n old → Does call old new → new.ran.since ≡ ran_by old.ran.since call
call_ran n call old new low high i does = ran_is n call i.own old new (event n call i.own old new low high i.sound i.is does)

pub steps_in_time : (n : ℕ) (steps : List Step) (old new : Driver) → 1 ≤ n → n ≤ 7 → InTime n old → GoesOn old.ran.since steps → DoesAll steps old new → InTime n new
unfolding DoesAll GoesOn
steps_in_time n [] old new low high i goes same = subst (λ (driver : Driver). InTime n driver) (sym same) i
steps_in_time n (step ∷ more) old new low high i (first, rest) (behind, does, later) =
    let next = call_in_time n step.call step.told old behind low high i first does.does does.told in
    let ran = call_ran n step.call old behind low high i does.does in
    steps_in_time n more behind new low high next (subst (λ (k : ℕ). GoesOn k more) (sym ran) rest) later

-- A new driver.

new_timely : (n now : ℕ) (settings : Settings) → Timely n now settings (core (new_monitor settings now n))
new_timely n now settings = record {
  id = refl;
  first = refl;
  most = refl;
  next = first_fits settings.timeout_ms;
  beat = same_least now;
  heard = same_least now;
  outage = tt;
}

-- there is a monitor for each of the seven nodes
pub new_at : (n : ℕ) (settings : Settings) (now : ℕ) → 1 ≤ n → n ≤ 7 → slice_get (new_monitors settings now) (n - 1) ≡ Some (new_monitor settings now n)
new_at zero settings now low high = absurd (omega (arith, low))
new_at (suc zero) settings now low high = refl
new_at (suc (suc zero)) settings now low high = refl
new_at (suc (suc (suc zero))) settings now low high = refl
new_at (suc (suc (suc (suc zero)))) settings now low high = refl
new_at (suc (suc (suc (suc (suc zero))))) settings now low high = refl
new_at (suc (suc (suc (suc (suc (suc zero)))))) settings now low high = refl
new_at (suc (suc (suc (suc (suc (suc (suc zero))))))) settings now low high = refl
new_at (suc (suc (suc (suc (suc (suc (suc (suc k)))))))) settings now low high = absurd (omega (arith, high))

pub new_in_time : (n : ℕ) (settings : Settings) (now : ℕ) (driver : Driver) → 1 ≤ n → n ≤ 7 → IsNewDriver settings now driver → InTime n driver
new_in_time n settings now driver low high new = record {
  own = new_monitor settings now n;
  is = ap (λ (monitors : List NodeMonitor). slice_get monitors (n - 1)) new.monitors ∙ new_at n settings now low high;
  sound = new_sound n settings now driver new;
  timely =
      subst (λ (timer : Timer). Timely n timer.since driver.settings (core (new_monitor settings now n))) (sym new.ran)
      (subst (λ (s : Settings). Timely n now s (core (new_monitor settings now n))) (sym new.settings_are) (new_timely n now settings));
  stands = refl;
}

-- each driver that runs as time goes on
pub running : (n : ℕ) (driver : Driver) → 1 ≤ n → n ≤ 7 → IsRunning driver → InTime n driver
running n driver low high r =
    let new = r.led.is_new in
    let first = new_in_time n r.led.settings r.led.now r.led.first low high new in
    let start : r.led.first.ran.since ≡ r.led.now = ap (λ (timer : Timer). timer.since) new.ran in
    steps_in_time n r.steps r.led.first driver low high first (subst (λ (k : ℕ). GoesOn k r.steps) (sym start) r.goes_on) r.led.calls

-- and their settings stay

settings_kept : (n : ℕ) (call : Call) (d : NodeMonitor) (old new : Driver) → Event n call d old new → new.settings ≡ old.settings
settings_kept n call d old new (Idle ran quiet r f) = ap (λ (b : Base). b.settings) r.based
settings_kept n call d old new (Hastened ran quiet h) = ap (λ (b : Base). b.settings) h.based
settings_kept n call d old new (Other now ran quiet o) = ap (λ (b : Base). b.settings) o.based
settings_kept n call d old new (Own now status progress ran quiet said given h) = ap (λ (b : Base). b.settings) h.based
settings_kept n call d old new (Passed now ran ticks given t) = ap (λ (b : Base). b.settings) t.based

pub steps_settings : (n : ℕ) (steps : List Step) (old new : Driver) → 1 ≤ n → n ≤ 7 → InTime n old → GoesOn old.ran.since steps → DoesAll steps old new → new.settings ≡ old.settings
unfolding DoesAll GoesOn
steps_settings n [] old new low high i goes same = ap (λ (driver : Driver). driver.settings) same
steps_settings n (step ∷ more) old new low high i (first, rest) (behind, does, later) =
    let next = call_in_time n step.call step.told old behind low high i first does.does does.told in
    let ran = call_ran n step.call old behind low high i does.does in
    steps_settings n more behind new low high next (subst (λ (k : ℕ). GoesOn k more) (sym ran) rest) later
    ∙ settings_kept n step.call i.own old behind (event n step.call i.own old behind low high i.sound i.is does.does)
