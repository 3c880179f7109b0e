-- The numbers of notes that are known of a node belong to notes that it was sent.
use Rattle.std.proofs.Common.{◌≡◌, ◌∙◌, ℕ, zero, suc, ◌+◌, ◌-◌, ◌<◌, ◌≤◌, Bool, true, false, List, [], ◌∷◌, Option, Some, None, length, refl, sym, ap, subst, slice_get, slice_index, arith}
use Rattle.std.specs.Prelude.{if◌then◌else◌, min, nat_eq}
use Rattle.bouncer_tower.specs.Bodies.{TowerBody}
use Rattle.buffer_commands.specs.declared.wire_line.WireLine.{WireLine}
use Rattle.node_notes.specs.declared.note.Note.{Note}
use Rattle.node_notes.specs.declared.note.Note.TheVariants as note
use Rattle.node_notes.specs.declared.progress.Progress.{Progress}
use Rattle.node_notes.specs.declared.status.Status.{Status}
use Rattle.raft_node.specs.declared.node_fault.Cause.{Cause}
use Rattle.driver.specs.declared.driver.Driver.{Driver}
use Rattle.driver.specs.declared.node_monitor.NodeMonitor.{NodeMonitor}
use Rattle.driver.specs.declared.node_monitor.standing.LastBeat.{LastBeat}
use Rattle.driver.specs.declared.node_monitor.standing.Outage.{Outage}
use Rattle.driver.specs.declared.order.Order.{Order}
use Rattle.driver.specs.declared.order.Order.TheVariants.{Submit}
use Rattle.driver.specs.declared.settings.Settings.{Settings}
use Rattle.driver.specs.declared.timer.Timer.{Timer}
use Rattle.driver.specs.Arriving.{IsNewDriver}
use Rattle.driver.specs.Calls.{Call, Does, DoesAll, IsTold, Step}
use Rattle.driver.specs.Counting.{notes_in, notes_told}
use Rattle.driver.specs.Driving.{clocked}
use Rattle.driver.specs.Hearing.{begins_run, down_behind, heard_behind, stood_behind, told_behind, up_behind, was_up}
use Rattle.driver.specs.Monitors.{monitor_behind, new_monitor, note_at, told}
use Rattle.driver.specs.Schedule.{GoesOn, IsRunning, ran_by}
use Rattle.driver.specs.Telling.{Ordered, counted, counts, next_note, none_told, ordered, told_to}
use Rattle.driver.proofs.Claiming.{same_eq}
use Rattle.driver.proofs.Clocks.{Clocks, More, woken}
use Rattle.driver.proofs.Counting.{counted_length, counts_all, counts_append, in_all, most, step_all}
use Rattle.driver.proofs.Events.{Event, Hastened, Idle, Other, Own, Passed, event}
use Rattle.driver.proofs.Moves.{Core, core, hastened_by}
use Rattle.driver.proofs.Monitors.{Look}
use Rattle.driver.proofs.Reporting.{heard_look}
use Rattle.driver.proofs.Timely.{InTime, call_in_time, call_ran, new_at, new_in_time}

-- A node's notes are counted.
pub record Counted (n : ℕ) (all : List ℕ) : Type 0 where
  pub within : n - 1 < length all
  pub small : slice_index all (n - 1) ≤ most

-- They are, and are no fewer than before.
pub record CountsOn (n : ℕ) (old new : List ℕ) : Type 0 where
  pub counted : Counted n new
  pub more : slice_index old (n - 1) ≤ slice_index new (n - 1)

counts_length : (items : List Order) (told : List ℕ) → length (counts told items) ≡ length told
unfolding counts
counts_length [] told = refl
counts_length (o ∷ more) told = counts_length more (counted told o) ∙ counted_length told o

bounded : (count more : ℕ) → min (count + more) most ≤ most
bounded count more = omega (arith)

grown : (count more : ℕ) → count ≤ most → count ≤ min (count + more) most
grown count more small = omega (arith, small)

pub counts_on : (n : ℕ) (told : List ℕ) (items : List Order) → Counted n told → CountsOn n told (counts told items)
counts_on n told items c =
    let is = counts_all n items told c.within c.small in
    record {
      counted = record {
        within = subst (λ (k : ℕ). n - 1 < k) (sym (counts_length items told)) c.within;
        small = subst (λ (k : ℕ). k ≤ most) (sym is) (bounded (slice_index told (n - 1)) (notes_told n items));
      };
      more = subst (λ (k : ℕ). slice_index told (n - 1) ≤ k) (sym is) (grown (slice_index told (n - 1)) (notes_told n items) c.small);
    }

counts_as : (n : ℕ) (old new : List ℕ) (items : List Order) → new ≡ counts old items → Counted n old → CountsOn n old new
counts_as n old new items is c = subst (λ (all : List ℕ). CountsOn n old all) (sym is) (counts_on n old items c)

-- if more is ordered
pub more_counts : (n : ℕ) (before after : Ordered) → More before after → Counted n (in_all before) → CountsOn n (in_all before) (in_all after)
more_counts n before after m c =
    counts_as n (in_all before) (in_all after) m.told (ap in_all m.orders ∙ counts_append before.before before.items m.told) c

-- by a call
pub call_counts : (n : ℕ) (call : Call) (told : List Order) (old new : Driver) → Counted n (in_all old.orders) → Does call old new → IsTold call told old.orders new.orders → CountsOn n (in_all old.orders) (in_all new.orders)
call_counts n call told old new c does is = counts_as n (in_all old.orders) (in_all new.orders) told (step_all call told old new does is) c

pub told_is : (n : ℕ) (orders : Ordered) → told_to orders n ≡ slice_index (in_all orders) (n - 1)
unfolding told_to
told_is n orders = refl

-- a note that was sent has the next number
if_one : (b : Bool) (k : ℕ) → b ≡ true → (if b then k else 0) ≡ k
if_one true k is = refl
if_one false k is = absurd (cc is)

one_further : (count more : ℕ) → min (count + 1) most ≤ min (count + (1 + more)) most
one_further count more = omega (arith)

pub next_told : (n : ℕ) (orders : Ordered) (came : Note TowerBody WireLine) → Counted n (in_all orders) → next_note orders n ≤ told_to (ordered orders (Submit n came ∷ [])) n
unfolding told_to notes_told counts
next_told n orders came c =
    let all = in_all orders in
    let is : slice_index (in_all (ordered orders (Submit n came ∷ []))) (n - 1) ≡ min (slice_index all (n - 1) + (notes_in n (Submit n came) + 0)) most =
    ap (λ (all : List ℕ). slice_index all (n - 1)) (counts_append orders.before orders.items (Submit n came ∷ [])) ∙ counts_all n (Submit n came ∷ []) all c.within c.small
    in
    subst (λ (k : ℕ). min (slice_index all (n - 1) + 1) most ≤ k) (sym is)
    (subst (λ (k : ℕ). min (slice_index all (n - 1) + 1) most ≤ min (slice_index all (n - 1) + (k + 0)) most) (sym (if_one (nat_eq (n - 1) (n - 1)) 1 (same_eq (n - 1)))) (one_further (slice_index all (n - 1)) 0))

-- The last beat.

beat_by : (orders : Ordered) (d : NodeMonitor) (now limit : ℕ) (came : Option (Note TowerBody WireLine)) → d.beat.note ≤ limit → (came ≡ Some note.Beat → next_note orders d.id ≤ limit) → (core (monitor_behind orders d now came)).beat.note ≤ limit
unfolding monitor_behind
beat_by orders d now limit None fits next = fits
beat_by orders d now limit (Some note.Beat) fits next = next refl
beat_by orders d now limit (Some (note.Timeout contacts)) fits next = fits
beat_by orders d now limit (Some note.Restart) fits next = fits
beat_by orders d now limit (Some (note.Ask body)) fits next = fits
beat_by orders d now limit (Some note.Opened) fits next = fits
beat_by orders d now limit (Some note.Closed) fits next = fits
beat_by orders d now limit (Some (note.Heard at line)) fits next = fits
beat_by orders d now limit (Some note.Claim) fits next = fits
beat_by orders d now limit (Some note.Wake) fits next = fits
beat_by orders d now limit (Some note.End) fits next = fits

up_beat : (d : NodeMonitor) (now : ℕ) (new up : Bool) → (up_behind d now new up).beat ≡ d.beat
up_beat d now new true = refl
up_beat d now new false = refl

down_beat : (d : NodeMonitor) (now : ℕ) (down : Option Outage) → (down_behind d now down).beat ≡ d.beat
down_beat d now None = refl
down_beat d now (Some since) = refl

stood_beat : (d : NodeMonitor) (now : ℕ) (new up : Bool) (cause : Option Cause) → (stood_behind d now new up cause).beat ≡ d.beat
stood_beat d now new up None = up_beat d now new up
stood_beat d now new up (Some cause) = down_beat d now d.down

heard_beat : (d : NodeMonitor) (now told : ℕ) (status : Status) (progress : Progress) → (heard_behind d now told status progress).beat ≡ d.beat
heard_beat d now told status progress = stood_beat (told_behind d now told status progress) now (begins_run d.status status) (was_up d.status) status.down

hastened_beat : (short : Bool) (d : NodeMonitor) → (hastened_by short d).beat ≡ d.beat
hastened_beat true d = refl
hastened_beat false d = refl

-- What holds for a node: its notes are counted, and the last beat is one of them.
pub record Noted (n : ℕ) (driver : Driver) : Type 0 where
  pub in_time : InTime n driver
  pub counted : Counted n (in_all driver.orders)
  pub beat : (core in_time.own).beat.note ≤ slice_index (in_all driver.orders) (n - 1)

pub both_below : (a b c : ℕ) → a ≤ b → b ≤ c → a ≤ c
both_below a b c first last = omega (arith, first, last)

beat_told : (n : ℕ) (orders : Ordered) (id : ℕ) (came : Option (Note TowerBody WireLine)) → came ≡ Some note.Beat → id ≡ n → Counted n (in_all orders) → next_note orders id ≤ slice_index (in_all (ordered orders (told id came))) (n - 1)
unfolding told_to
beat_told n orders id came is own c =
    subst (λ (came : Option (Note TowerBody WireLine)). next_note orders id ≤ slice_index (in_all (ordered orders (told id came))) (n - 1)) (sym is)
    (subst (λ (k : ℕ). next_note orders k ≤ slice_index (in_all (ordered orders (told k (Some note.Beat)))) (n - 1)) (sym own) (next_told n orders note.Beat c))

abbrev pub or_monitor : NodeMonitor → Option NodeMonitor → NodeMonitor
or_monitor d None = d
or_monitor d (Some other) = other

-- the monitor that is found is the one that is known
same_beat : (n : ℕ) (d : NodeMonitor) (new : Driver) (next : InTime n new) → slice_get new.monitors (n - 1) ≡ Some d → d.beat.note ≤ slice_index (in_all new.orders) (n - 1) → next.own.beat.note ≤ slice_index (in_all new.orders) (n - 1)
same_beat n d new next is fits =
    subst (λ (e : NodeMonitor). e.beat.note ≤ slice_index (in_all new.orders) (n - 1)) (ap (or_monitor d) (sym is ∙ next.is)) fits

found_beat : (n : ℕ) (d : NodeMonitor) (old new : Driver) (next : InTime n new) → slice_get new.monitors (n - 1) ≡ Some d → d.beat.note ≤ slice_index (in_all old.orders) (n - 1) → CountsOn n (in_all old.orders) (in_all new.orders) → next.own.beat.note ≤ slice_index (in_all new.orders) (n - 1)
found_beat n d old new next is fits on =
    same_beat n d new next is (both_below d.beat.note (slice_index (in_all old.orders) (n - 1)) (slice_index (in_all new.orders) (n - 1)) fits on.more)

-- the clock sent it something
clock_beat : (n now : ℕ) (settings : Settings) (d : NodeMonitor) (old new : Driver) → (c : Clocks n now settings d old new) → d.id ≡ n → Counted n (in_all old.orders) → d.beat.note ≤ slice_index (in_all old.orders) (n - 1) → c.behind.beat.note ≤ slice_index (in_all new.orders) (n - 1)
clock_beat n now settings d old new c id counted fits =
    let first = more_counts n old.orders c.before c.first counted in
    let came = note_at c.own settings now in
    let told_all = ordered c.before (told c.own.id came) in
    let mid = more_counts n c.before told_all (record { told = told c.own.id came; orders = refl }) first.counted in
    let last = more_counts n told_all new.orders c.last mid.counted in
    let before : c.own.beat.note ≤ slice_index (in_all c.before) (n - 1) =
    subst (λ (k : Core). k.beat.note ≤ slice_index (in_all c.before) (n - 1)) (sym c.from)
    (both_below d.beat.note (slice_index (in_all old.orders) (n - 1)) (slice_index (in_all c.before) (n - 1)) fits first.more)
    in
    let own : c.own.id ≡ n = ap (λ (k : Core). k.id) c.from ∙ id in
    let here : (core (clocked c.before settings now c.own)).beat.note ≤ slice_index (in_all told_all) (n - 1) =
    beat_by c.before c.own now (slice_index (in_all told_all) (n - 1)) came
    (both_below c.own.beat.note (slice_index (in_all c.before) (n - 1)) (slice_index (in_all told_all) (n - 1)) before mid.more)
    (λ beats.
    beat_told n c.before c.own.id came beats own first.counted)
    in
    both_below c.behind.beat.note (slice_index (in_all told_all) (n - 1)) (slice_index (in_all new.orders) (n - 1))
    (subst (λ (k : Core). k.beat.note ≤ slice_index (in_all told_all) (n - 1)) (sym c.same) here) last.more

event_beat : (n : ℕ) (call : Call) (old new : Driver) → (i : InTime n old) → (next : InTime n new) → Counted n (in_all old.orders) → CountsOn n (in_all old.orders) (in_all new.orders) → (core i.own).beat.note ≤ slice_index (in_all old.orders) (n - 1) → Event n call i.own old new → next.own.beat.note ≤ slice_index (in_all new.orders) (n - 1)
event_beat n call old new i next counted on fits (Idle ran quiet r f) =
    let kept = subst (λ (k : Core). k.beat.note ≤ slice_index (in_all old.orders) (n - 1)) (sym f.same) fits in
    found_beat n f.behind old new next f.is kept on
event_beat n call old new i next counted on fits (Hastened ran quiet h) =
    let short = subst (λ (b : LastBeat). b.note ≤ slice_index (in_all old.orders) (n - 1)) (sym (hastened_beat h.short i.own)) fits in
    let kept = subst (λ (k : Core). k.beat.note ≤ slice_index (in_all old.orders) (n - 1)) (sym h.found.same) short in
    found_beat n h.found.behind old new next h.found.is kept on
event_beat n call old new i next counted on fits (Other now ran quiet o) =
    let kept = subst (λ (k : Core). k.beat.note ≤ slice_index (in_all old.orders) (n - 1)) (sym o.found.same) fits in
    found_beat n o.found.behind old new next o.found.is kept on
event_beat n call old new i next counted on fits (Own now status progress ran quiet said given h) =
    let count = told_to h.heard i.own.id in
    let up = woken old now i.own in
    let heard = subst (λ (b : LastBeat). b.note ≤ slice_index (in_all old.orders) (n - 1)) (sym (heard_beat up now count status progress)) fits in
    same_beat n h.clocks.behind new next h.clocks.is
    (clock_beat n now old.settings (heard_behind up now count status progress) old new h.clocks (ap (λ (x : Look). x.id) (heard_look up now count status progress) ∙ i.timely.id) counted heard)
event_beat n call old new i next counted on fits (Passed now ran ticks given t) =
    same_beat n t.clocks.behind new next t.clocks.is
    (clock_beat n now old.settings (woken old now i.own) old new t.clocks i.timely.id counted fits)

pub call_noted : (n : ℕ) (call : Call) (told : List Order) (old new : Driver) → 1 ≤ n → n ≤ 7 → Noted n old → old.ran.since ≤ ran_by old.ran.since call → Does call old new → IsTold call told old.orders new.orders → Noted n new
call_noted n call told old new low high i goes does is =
    let next = call_in_time n call told old new low high i.in_time goes does is in
    let on = call_counts n call told old new i.counted does is in
    record {
      in_time = next;
      counted = on.counted;
      beat = event_beat n call old new i.in_time next i.counted on i.beat (event n call i.in_time.own old new low high i.in_time.sound i.in_time.is does);
    }

pub steps_noted : (n : ℕ) (steps : List Step) (old new : Driver) → 1 ≤ n → n ≤ 7 → Noted n old → GoesOn old.ran.since steps → DoesAll steps old new → Noted n new
unfolding DoesAll GoesOn
steps_noted n [] old new low high i goes same = subst (λ (driver : Driver). Noted n driver) (sym same) i
steps_noted n (step ∷ more) old new low high i (first, rest) (behind, does, later) =
    let next = call_noted n step.call step.told old behind low high i first does.does does.told in
    let ran = call_ran n step.call old behind low high i.in_time does.does in
    steps_noted n more behind new low high next (subst (λ (k : ℕ). GoesOn k more) (sym ran) rest) later

-- A new driver.

none_at : (i : ℕ) → slice_index none_told.before i ≡ 0
none_at zero = refl
none_at (suc zero) = refl
none_at (suc (suc zero)) = refl
none_at (suc (suc (suc zero))) = refl
none_at (suc (suc (suc (suc zero)))) = refl
none_at (suc (suc (suc (suc (suc zero))))) = refl
none_at (suc (suc (suc (suc (suc (suc zero)))))) = refl
none_at (suc (suc (suc (suc (suc (suc (suc i))))))) = refl

new_counted : (n : ℕ) → 1 ≤ n → n ≤ 7 → Counted n (in_all none_told)
unfolding counts
new_counted n low high = record {
  within = omega (arith, low, high);
  small = subst (λ (k : ℕ). k ≤ most) (sym (none_at (n - 1))) (omega (arith));
}

no_less : (count : ℕ) → 0 ≤ count
no_less count = omega (arith)

pub new_noted : (n : ℕ) (settings : Settings) (now : ℕ) (driver : Driver) → 1 ≤ n → n ≤ 7 → IsNewDriver settings now driver → Noted n driver
new_noted n settings now driver low high new = record {
  in_time = new_in_time n settings now driver low high new;
  counted = subst (λ (orders : Ordered). Counted n (in_all orders)) (sym new.orders) (new_counted n low high);
  beat =
      same_beat n (new_monitor settings now n) driver (new_in_time n settings now driver low high new)
      (ap (λ (monitors : List NodeMonitor). slice_get monitors (n - 1)) new.monitors ∙ new_at n settings now low high)
      (no_less (slice_index (in_all driver.orders) (n - 1)));
}

-- each driver that runs as time goes on
pub running_noted : (n : ℕ) (driver : Driver) → 1 ≤ n → n ≤ 7 → IsRunning driver → Noted n driver
running_noted n driver low high r =
    let new = r.led.is_new in
    let first = new_noted n r.led.settings r.led.now r.led.first low high new in
    let start : r.led.first.ran.since ≡ r.led.now = ap (λ (timer : Timer). timer.since) new.ran in
    steps_noted n r.steps r.led.first driver low high first (subst (λ (k : ℕ). GoesOn k r.steps) (sym start) r.goes_on) r.led.calls
