-- What is known of a node that leads, and when its next beat is due.
use Rattle.std.proofs.Common.{◌≡◌, ◌∙◌, ◌⊎◌, inl, inr, ℕ, ◌+◌, ◌-◌, ◌≤◌, Bool, true, false, List, Option, Some, None, refl, sym, ap, subst, slice_index, arith}
use Rattle.std.specs.Prelude.{if◌then◌else◌, is_some, max, min}
use Rattle.std.specs.List.{list_any}
use Rattle.node_notes.specs.declared.note.Note.TheVariants as note
use Rattle.node_notes.specs.declared.progress.Progress.{Progress}
use Rattle.node_notes.specs.declared.status.Status.{Status}
use Rattle.node_notes.specs.Notes.{leads}
use Rattle.raft_node.specs.declared.node_fault.Cause.{Cause}
use Rattle.driver.specs.declared.driver.Driver.{Driver}
use Rattle.driver.specs.declared.node_monitor.NodeMonitor.{NodeMonitor}
use Rattle.driver.specs.declared.node_monitor.standing.Outage.{Outage}
use Rattle.driver.specs.declared.order.Order.{Order}
use Rattle.driver.specs.declared.order.Order.TheVariants.{Submit}
use Rattle.driver.specs.declared.settings.Settings.{Settings}
use Rattle.driver.specs.Absences.{shortened}
use Rattle.driver.specs.Calls.{Call, IsTold}
use Rattle.driver.specs.Hearing.{begins_run, down_behind, heard_behind, progressed, stood_behind, told_behind, up_behind, was_up}
use Rattle.driver.specs.Monitors.{is_to_beat}
use Rattle.driver.specs.Schedule.{beats, tells_only}
use Rattle.driver.specs.Telling.{Ordered, ordered, told_to}
use Rattle.driver.proofs.Awaiting.{Waits, found_waits}
use Rattle.driver.proofs.Beaten.{IsDue, leads_none, note_leader, tells_leading}
use Rattle.driver.proofs.Claiming.{same_eq}
use Rattle.driver.proofs.Clocks.{Clocks, woken}
use Rattle.driver.proofs.Counting.{in_all}
use Rattle.driver.proofs.Events.{Event, Hastened, Idle, Other, Own, Passed, clock_tells}
use Rattle.driver.proofs.Moves.{Base, Core, core, hastened_by}
use Rattle.driver.proofs.Noted.{both_below}
use Rattle.driver.proofs.Restarted.{none_behind}

-- A node leads, its last beat has a number up to this one, and the next is due at this moment, once that one is done.
pub record IsLeading (n number moment beat_ms : ℕ) (c : Core) : Type 0 where
  pub id : c.id ≡ n
  pub is_up : c.down ≡ None
  pub status : Status
  pub is_status : c.status ≡ Some status
  pub is_leader : leads status ≡ true
  pub told : c.beat.note ≤ number
  pub in_time : c.beat.at.since + beat_ms ≤ moment

pub leading_due : (n number moment beat_ms : ℕ) (c : Core) → IsLeading n number moment beat_ms c → number ≤ c.progress.done → IsDue n moment beat_ms c
leading_due n number moment beat_ms c w done = record {
  id = w.id;
  is_up = w.is_up;
  status = w.status;
  is_status = w.is_status;
  is_leader = w.is_leader;
  done = both_below c.beat.note number c.progress.done w.told done;
  in_time = w.in_time;
}

hastened_leading : (n number moment beat_ms : ℕ) (short : Bool) (d : NodeMonitor) → IsLeading n number moment beat_ms (core d) → IsLeading n number moment beat_ms (core (hastened_by short d))
hastened_leading n number moment beat_ms false d w = w
hastened_leading n number moment beat_ms true d w = record {
  id = w.id;
  is_up = ap shortened w.is_up;
  status = w.status;
  is_status = w.is_status;
  is_leader = w.is_leader;
  told = w.told;
  in_time = w.in_time;
}

pub woken_leading : (n number moment beat_ms now : ℕ) (old : Driver) (d : NodeMonitor) → IsLeading n number moment beat_ms (core d) → IsLeading n number moment beat_ms (core (woken old now d))
woken_leading n number moment beat_ms now old d w = record {
  id = w.id;
  is_up = w.is_up;
  status = w.status;
  is_status = w.is_status;
  is_leader = w.is_leader;
  told = w.told;
  in_time = w.in_time;
}

up_leading : (n number moment beat_ms now : ℕ) (status : Status) (m : NodeMonitor) (new up : Bool) → m.id ≡ n → m.status ≡ Some status → leads status ≡ true → m.beat.note ≤ number → m.beat.at.since + beat_ms ≤ moment → IsLeading n number moment beat_ms (core (up_behind m now new up))
up_leading n number moment beat_ms now status m new true id is leads told in_time = record {
  id = id;
  is_up = refl;
  status = status;
  is_status = is;
  is_leader = leads;
  told = told;
  in_time = in_time;
}
up_leading n number moment beat_ms now status m new false id is leads told in_time = record {
  id = id;
  is_up = refl;
  status = status;
  is_status = is;
  is_leader = leads;
  told = told;
  in_time = in_time;
}

stood_leading : (n number moment beat_ms now : ℕ) (status : Status) (m : NodeMonitor) (new up : Bool) (cause : Option Cause) → is_some cause ≡ false → m.id ≡ n → m.status ≡ Some status → leads status ≡ true → m.beat.note ≤ number → m.beat.at.since + beat_ms ≤ moment → IsLeading n number moment beat_ms (core (stood_behind m now new up cause))
stood_leading n number moment beat_ms now status m new up None so id is leads told in_time = up_leading n number moment beat_ms now status m new up id is leads told in_time
stood_leading n number moment beat_ms now status m new up (Some cause) so id is leads told in_time = absurd (cc so)

pub heard_leading : (n number moment beat_ms now count : ℕ) (status : Status) (progress : Progress) (d : NodeMonitor) → leads status ≡ true → IsLeading n number moment beat_ms (core d) → IsLeading n number moment beat_ms (core (heard_behind d now count status progress))
heard_leading n number moment beat_ms now count status progress d so w =
    stood_leading n number moment beat_ms now status (told_behind d now count status progress) (begins_run d.status status) (was_up d.status) status.down
    (leads_none status.role status.down so) w.id refl so w.told w.in_time

-- how far it is after a report
up_progress : (d : NodeMonitor) (now : ℕ) (new up : Bool) → (up_behind d now new up).progress ≡ d.progress
up_progress d now new true = refl
up_progress d now new false = refl

down_progress : (d : NodeMonitor) (now : ℕ) (down : Option Outage) → (down_behind d now down).progress ≡ d.progress
down_progress d now None = refl
down_progress d now (Some since) = refl

stood_progress : (d : NodeMonitor) (now : ℕ) (new up : Bool) (cause : Option Cause) → (stood_behind d now new up cause).progress ≡ d.progress
stood_progress d now new up None = up_progress d now new up
stood_progress d now new up (Some cause) = down_progress d now d.down

pub heard_progress : (d : NodeMonitor) (now count : ℕ) (status : Status) (progress : Progress) → (heard_behind d now count status progress).progress ≡ progressed d.progress count progress
heard_progress d now count status progress = stood_progress (told_behind d now count status progress) now (begins_run d.status status) (was_up d.status) status.down

pub done_by : (number known heard count : ℕ) → number ≤ heard → number ≤ count → number ≤ max known (min heard count)
done_by number known heard count first last = omega (arith, first, last)

-- After the clock it was asked to send, or the same is known of it.
clock_by : (n number moment now : ℕ) (settings : Settings) (d : NodeMonitor) (old new : Driver) (given : List Order) (c : Clocks n now settings d old new) (w : IsLeading n number moment settings.beat_ms (core c.own)) (due : Bool) → is_to_beat c.own settings now ≡ due → new.settings ≡ settings → new.orders ≡ ordered old.orders given → (list_any (beats n) given ≡ true) ⊎ Waits n (IsLeading n number moment settings.beat_ms) settings new
clock_by n number moment now settings d old new given c w true is goes_by orders =
    let told = note_leader c.own settings now w.status w.is_status w.is_up w.is_leader ∙ ap (λ (b : Bool). if b then Some note.Beat else None) is in
    inl (clock_tells n now settings d old new given (beats n) note.Beat c orders told (subst (λ (k : ℕ). beats n (Submit k note.Beat) ≡ true) (sym w.id) (same_eq n)))
clock_by n number moment now settings d old new given c w false is goes_by orders =
    let none = note_leader c.own settings now w.status w.is_status w.is_up w.is_leader ∙ ap (λ (b : Bool). if b then Some note.Beat else None) is in
    inr (record {
      own = c.behind;
      is = c.is;
      waits = subst (λ (k : Core). IsLeading n number moment settings.beat_ms k) (sym (c.same ∙ none_behind c.before settings now c.own none)) w;
      goes_by = goes_by;
    })

clock_leading : (n number moment now : ℕ) (settings : Settings) (d : NodeMonitor) (old new : Driver) (given : List Order) → Clocks n now settings d old new → IsLeading n number moment settings.beat_ms (core d) → new.settings ≡ settings → new.orders ≡ ordered old.orders given → (list_any (beats n) given ≡ true) ⊎ Waits n (IsLeading n number moment settings.beat_ms) settings new
clock_leading n number moment now settings d old new given c w goes_by orders =
    clock_by n number moment now settings d old new given c (subst (λ (k : Core). IsLeading n number moment settings.beat_ms k) (sym c.from) w) (is_to_beat c.own settings now) refl goes_by orders

pub advance : (n number moment : ℕ) (settings : Settings) (call : Call) (told : List Order) (d : NodeMonitor) (old new : Driver) → old.settings ≡ settings → IsLeading n number moment settings.beat_ms (core d) → tells_only tells_leading n call ≡ true → IsTold call told old.orders new.orders → Event n call d old new → (list_any (beats n) told ≡ true) ⊎ Waits n (IsLeading n number moment settings.beat_ms) settings new
advance n number moment settings call told d old new goes_by w fit is (Idle ran quiet r f) =
    inr (found_waits n (IsLeading n number moment settings.beat_ms) settings d new (ap (λ (b : Base). b.settings) r.based ∙ goes_by) f w)
advance n number moment settings call told d old new goes_by w fit is (Hastened ran quiet h) =
    inr (found_waits n (IsLeading n number moment settings.beat_ms) settings (hastened_by h.short d) new (ap (λ (b : Base). b.settings) h.based ∙ goes_by) h.found (hastened_leading n number moment settings.beat_ms h.short d w))
advance n number moment settings call told d old new goes_by w fit is (Other now ran quiet o) =
    inr (found_waits n (IsLeading n number moment settings.beat_ms) settings (woken old now d) new (ap (λ (b : Base). b.settings) o.based ∙ goes_by) o.found (woken_leading n number moment settings.beat_ms now old d w))
advance n number moment settings call told d old new goes_by w fit is (Own now status progress ran quiet said given h) =
    let count = told_to h.heard d.id in
    let c = subst (λ (s : Settings). Clocks n now s (heard_behind (woken old now d) now count status progress) old new) goes_by h.clocks in
    clock_leading n number moment now settings (heard_behind (woken old now d) now count status progress) old new told c
    (heard_leading n number moment settings.beat_ms now count status progress (woken old now d) (said tells_leading fit) (woken_leading n number moment settings.beat_ms now old d w))
    (ap (λ (b : Base). b.settings) h.based ∙ goes_by) (given told is)
advance n number moment settings call told d old new goes_by w fit is (Passed now ran ticks given t) =
    let c = subst (λ (s : Settings). Clocks n now s (woken old now d) old new) goes_by t.clocks in
    clock_leading n number moment now settings (woken old now d) old new told c (woken_leading n number moment settings.beat_ms now old d w)
    (ap (λ (b : Base). b.settings) t.based ∙ goes_by) (given told is)

abbrev pub all_in : ℕ → Ordered → ℕ
all_in n orders = slice_index (in_all orders) (n - 1)
