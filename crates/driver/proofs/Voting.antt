-- A node that hears of no leader is asked for an election in time.
use Rattle.std.proofs.Common.{◌≡◌, ◌∙◌, ◌⊎◌, inl, inr, ℕ, zero, suc, ◌+◌, ◌-◌, ◌*◌, ◌<◌, ◌≤◌, Bool, true, false, List, [], ◌∷◌, length, Option, Some, None, refl, sym, ap, subst, slice_get, ⊎_elim, arith}
use Rattle.std.specs.Prelude.{◌/◌, ◌&&◌, ◌||◌, if◌then◌else◌, is_some, min, nat_eq}
use Rattle.std.specs.List.{list_all, list_any}
use Rattle.std.proofs.lemmas.Bool.{and_right, leb-false, ne_eqb}
use Rattle.node_notes.specs.declared.note.Note.TheVariants as note
use Rattle.node_notes.specs.declared.status.Status.{Status}
use Rattle.node_notes.specs.Notes.{leads}
use Rattle.driver.specs.declared.driver.Driver.{Driver}
use Rattle.driver.specs.declared.node_monitor.NodeMonitor.{NodeMonitor}
use Rattle.driver.specs.declared.node_monitor.clock.TheConstants.{APART}
use Rattle.driver.specs.declared.node_monitor.standing.Outage.{Outage}
use Rattle.driver.specs.declared.order.Order.{Order}
use Rattle.driver.specs.declared.settings.Settings.{Settings}
use Rattle.driver.specs.Calls.{Call, DoesAll, IsTold, Step}
use Rattle.driver.specs.Counting.{all_told}
use Rattle.driver.specs.Hearing.{heard_behind}
use Rattle.driver.specs.Links.{status_in}
use Rattle.driver.specs.Monitors.{is_over, is_to_beat, note_at, note_for, note_up, patience}
use Rattle.driver.specs.Schedule.{EachTicks, GoesOn, VotesInTicks, VotesInTime, asks_for_votes, contacts_of, counts, is_tick, one_orders, passes_counted, ran_by, tells_of_none, tells_only}
use Rattle.driver.specs.Telling.{ordered, told_to}
use Rattle.driver.proofs.Claiming.{same_eq}
use Rattle.driver.proofs.Clocks.{Clocks, woken}
use Rattle.driver.proofs.Events.{Event, Hastened, Idle, Other, Own, Passed, any_first, any_last, clock_tells, event}
use Rattle.driver.proofs.Keeping.{Sound}
use Rattle.driver.proofs.Moves.{Base, Core, Found, core, hastened_by}
use Rattle.driver.proofs.OneClaim.{outcome}
use Rattle.driver.proofs.Restarted.{none_behind}
use Rattle.driver.proofs.Staying.{is_down_so}
use Rattle.driver.proofs.Timely.{running}
use Rattle.driver.proofs.Beaten.{none_is}
use Rattle.driver.proofs.Silent.{IsSilent, and_first, and_last, hastened_silent, heard_silent, of_none, or_last, woken_silent}

-- the note that the clock sends it
note_silent : (d : NodeMonitor) (settings : Settings) (now : ℕ) (status : Status) → d.status ≡ Some status → d.down ≡ None → leads status ≡ false → note_at d settings now ≡ (if is_over d.following.last_leader_contact (patience settings d.id) now then Some (note.Timeout d.progress.contacts) else None)
unfolding note_for note_up
note_silent d settings now status is up follows =
    ap (λ (status : Option Status). note_for d settings now status d.down) is
    ∙ ap (λ (down : Option Outage). note_for d settings now (Some status) down) up
    ∙ ap (λ (b : Bool). if b then (if is_to_beat d settings now then Some note.Beat else None) else (if is_over d.following.last_leader_contact (patience settings d.id) now then Some (note.Timeout d.progress.contacts) else None)) follows

-- After the clock it was asked for an election, or waits on, and some of its wait is left.
pub record WaitsOn (n term contacts : ℕ) (settings : Settings) (ran left : ℕ) (driver : Driver) : Type 0 where
  pub own : NodeMonitor
  pub is : slice_get driver.monitors (n - 1) ≡ Some own
  pub waits : IsSilent n term contacts settings ran left (core own)
  pub goes_by : driver.settings ≡ settings
  pub ran_is : driver.ran.since ≡ ran

abbrev pub Ticks : ℕ → ℕ → ℕ → Settings → List Order → ℕ → ℕ → Driver → Type 0
Ticks n term contacts settings told now left new =
    (list_any (asks_for_votes n contacts) told ≡ true) ⊎ ((nat_eq left 0 ≡ false) × WaitsOn n term contacts settings now left new)

some_left : (since wait now left : ℕ) → now - since < wait → wait ≤ (now - since) + left → nat_eq left 0 ≡ false
some_left since wait now left early enough = ne_eqb left 0 (λ none. omega (arith, early, enough, none))

both_true : (a b : Bool) → a ≡ true → b ≡ true → (a && b) ≡ true
both_true true b is so = so
both_true false b is so = is

clock_by : (n term contacts now left : ℕ) (settings : Settings) (d : NodeMonitor) (old new : Driver) (given : List Order) (c : Clocks n now settings d old new) (w : IsSilent n term contacts settings now left (core c.own)) (over : Bool) → is_over c.own.following.last_leader_contact (patience settings c.own.id) now ≡ over → new.settings ≡ settings → new.ran.since ≡ now → new.orders ≡ ordered old.orders given → Ticks n term contacts settings given now left new
clock_by n term contacts now left settings d old new given c w true is goes_by ran orders =
    let told =
    note_silent c.own settings now w.status w.is_status w.is_up w.follows
    ∙ ap (λ (b : Bool). if b then Some (note.Timeout c.own.progress.contacts) else None) is
    in
    let node = subst (λ (k : ℕ). nat_eq k n ≡ true) (sym w.id) (same_eq n) in
    let most = subst (λ (k : ℕ). nat_eq k contacts ≡ true) (sym w.heard) (same_eq contacts) in
    inl (clock_tells n now settings d old new given (asks_for_votes n contacts) (note.Timeout c.own.progress.contacts) c orders told (both_true (nat_eq c.own.id n) (nat_eq c.own.progress.contacts contacts) node most))
clock_by n term contacts now left settings d old new given c w false is goes_by ran orders =
    let none =
    note_silent c.own settings now w.status w.is_status w.is_up w.follows
    ∙ ap (λ (b : Bool). if b then Some (note.Timeout c.own.progress.contacts) else None) is
    in
    let since = c.own.following.last_leader_contact.since in
    let wait = settings.timeout_ms + APART * n in
    let early : now - since < wait =
    subst (λ (k : ℕ). now - since < settings.timeout_ms + APART * k) w.id (leb-false (patience settings c.own.id) (now - since) is)
    in
    inr (
      some_left since wait now left early w.enough,
      record {
        own = c.behind;
        is = c.is;
        waits = subst (λ (k : Core). IsSilent n term contacts settings now left k) (sym (c.same ∙ none_behind c.before settings now c.own none)) w;
        goes_by = goes_by;
        ran_is = ran;
      },
    )

clock_silent : (n term contacts now left : ℕ) (settings : Settings) (d : NodeMonitor) (old new : Driver) (given : List Order) → Clocks n now settings d old new → IsSilent n term contacts settings now left (core d) → new.settings ≡ settings → new.ran.since ≡ now → new.orders ≡ ordered old.orders given → Ticks n term contacts settings given now left new
clock_silent n term contacts now left settings d old new given c w goes_by ran orders =
    let own = subst (λ (k : Core). IsSilent n term contacts settings now left k) (sym c.from) w in
    clock_by n term contacts now left settings d old new given c own (is_over c.own.following.last_leader_contact (patience settings c.own.id) now) refl goes_by ran orders

-- A call orders it, or the node waits on, and the call was no tick, or some of its wait is left.
abbrev pub Comes : ℕ → ℕ → ℕ → Settings → ℕ → ℕ → Call → List Order → Driver → Type 0
Comes n term contacts settings ran left call told new =
    (list_any (asks_for_votes n contacts) told ≡ true)
    ⊎ (((is_tick call && nat_eq (left - counts (settings.timeout_ms / 2) ran call) 0) ≡ false)
    × WaitsOn n term contacts settings (ran_by ran call) (left - counts (settings.timeout_ms / 2) ran call) new)

none_counts : (left ran half : ℕ) → left ≡ left - min (ran - ran) half
none_counts left ran half = omega (arith)

-- if the driver did not run
stays_silent : (n term contacts ran left : ℕ) (settings : Settings) (call : Call) (told : List Order) (d : NodeMonitor) (new : Driver) → ran_by ran call ≡ ran → is_tick call ≡ false → new.settings ≡ settings → new.ran.since ≡ ran → Found n d new → IsSilent n term contacts settings ran left (core d) → Comes n term contacts settings ran left call told new
stays_silent n term contacts ran left settings call told d new same quiet goes_by ran_is f w =
    let half = settings.timeout_ms / 2 in
    let rest : left ≡ left - counts half ran call = subst (λ (k : ℕ). left ≡ left - min (k - ran) half) (sym same) (none_counts left ran half) in
    let waits : WaitsOn n term contacts settings ran left new = record {
      own = f.behind;
      is = f.is;
      waits = subst (λ (c : Core). IsSilent n term contacts settings ran left c) (sym f.same) w;
      goes_by = goes_by;
      ran_is = ran_is;
    } in
    inr (
      ap (λ (b : Bool). b && nat_eq (left - counts half ran call) 0) quiet,
      subst (λ (k : ℕ). WaitsOn n term contacts settings k (left - counts half ran call) new) (sym same)
          (subst (λ (k : ℕ). WaitsOn n term contacts settings ran k new) rest waits),
    )

-- if it ran
ran_silent : (n term contacts ran left now : ℕ) (settings : Settings) (call : Call) (told : List Order) (new : Driver) → ran_by ran call ≡ now → Ticks n term contacts settings told now (left - min (now - ran) (settings.timeout_ms / 2)) new → Comes n term contacts settings ran left call told new
ran_silent n term contacts ran left now settings call told new is t =
    let half = settings.timeout_ms / 2 in
    let moved = subst (λ (k : ℕ). Ticks n term contacts settings told k (left - min (k - ran) half) new) (sym is) t in
    ⊎_elim (λ told. inl told)
    (λ waits. inr (and_right (is_tick call) (nat_eq (left - counts half ran call) 0) waits.0, waits.1)) moved

-- a call
advance : (n term contacts left : ℕ) (call : Call) (told : List Order) (d : NodeMonitor) (old new : Driver) → old.ran.since ≤ ran_by old.ran.since call → IsSilent n term contacts old.settings old.ran.since left (core d) → tells_only (tells_of_none term contacts) n call ≡ true → IsTold call told old.orders new.orders → Event n call d old new → Comes n term contacts old.settings old.ran.since left call told new
advance n term contacts left call told d old new goes w fit is (Idle ran quiet r f) =
    stays_silent n term contacts old.ran.since left old.settings call told d new (ran old.ran.since) quiet
    (ap (λ (b : Base). b.settings) r.based) (ap (λ (b : Base). b.ran.since) r.based) f w
advance n term contacts left call told d old new goes w fit is (Hastened ran quiet h) =
    stays_silent n term contacts old.ran.since left old.settings call told (hastened_by h.short d) new (ran old.ran.since) quiet
    (ap (λ (b : Base). b.settings) h.based) (ap (λ (b : Base). b.ran.since) h.based) h.found
    (hastened_silent n term contacts old.settings old.ran.since left h.short d w)
advance n term contacts left call told d old new goes w fit is (Other now ran quiet o) =
    let half = old.settings.timeout_ms / 2 in
    let here = woken_silent n term contacts left now old d (subst (λ (k : ℕ). old.ran.since ≤ k) (ran old.ran.since) goes) w in
    let waits : WaitsOn n term contacts old.settings now (left - min (now - old.ran.since) half) new = record {
      own = o.found.behind;
      is = o.found.is;
      waits = subst (λ (c : Core). IsSilent n term contacts old.settings now (left - min (now - old.ran.since) half) c) (sym o.found.same) here;
      goes_by = ap (λ (b : Base). b.settings) o.based;
      ran_is = ap (λ (b : Base). b.ran.since) o.based;
    } in
    inr (
      ap (λ (b : Bool). b && nat_eq (left - counts half old.ran.since call) 0) quiet,
      subst (λ (k : ℕ). WaitsOn n term contacts old.settings k (left - min (k - old.ran.since) half) new) (sym (ran old.ran.since)) waits,
    )
advance n term contacts left call told d old new goes w fit is (Own now status progress ran quiet said given h) =
    let count = told_to h.heard d.id in
    let half = old.settings.timeout_ms / 2 in
    let up = woken old now d in
    let here = woken_silent n term contacts left now old d (subst (λ (k : ℕ). old.ran.since ≤ k) (ran old.ran.since) goes) w in
    let heard = heard_silent n term contacts old.settings now (left - min (now - old.ran.since) half) now count status progress up (of_none term contacts status progress (said (tells_of_none term contacts) fit)) here in
    ran_silent n term contacts old.ran.since left now old.settings call told new (ran old.ran.since)
    (clock_silent n term contacts now (left - min (now - old.ran.since) half) old.settings (heard_behind up now count status progress) old new told h.clocks heard (ap (λ (b : Base). b.settings) h.based) (ap (λ (b : Base). b.ran.since) h.based) (given told is))
advance n term contacts left call told d old new goes w fit is (Passed now ran ticks given t) =
    let half = old.settings.timeout_ms / 2 in
    let up = woken old now d in
    let here = woken_silent n term contacts left now old d (subst (λ (k : ℕ). old.ran.since ≤ k) (ran old.ran.since) goes) w in
    ran_silent n term contacts old.ran.since left now old.settings call told new (ran old.ran.since)
    (clock_silent n term contacts now (left - min (now - old.ran.since) half) old.settings up old new told t.clocks here
    (ap (λ (b : Base). b.settings) t.based) (ap (λ (b : Base). b.ran.since) t.based) (given told is))

-- all calls
until_votes : (n term contacts ran left : ℕ) (settings : Settings) (steps : List Step) (old new : Driver) → 1 ≤ n → n ≤ 7 → Sound n old → WaitsOn n term contacts settings ran left old → GoesOn ran steps → list_all (λ (step : Step). tells_only (tells_of_none term contacts) n step.call) steps ≡ true → DoesAll steps old new → passes_counted (settings.timeout_ms / 2) ran left steps ≡ true → one_orders (asks_for_votes n contacts) steps ≡ true
unfolding DoesAll GoesOn all_told passes_counted
until_votes n term contacts ran left settings [] old new low high sound w goes fit same passed = absurd (cc passed)
until_votes n term contacts ran left settings (step ∷ more) old new low high sound w (first, rest) fit (behind, does, later) passed =
    let half = settings.timeout_ms / 2 in
    let e = event n step.call w.own old behind low high sound w.is does.does in
    let others = list_all (λ (step : Step). tells_only (tells_of_none term contacts) n step.call) more in
    let here = and_first (tells_only (tells_of_none term contacts) n step.call) others fit in
    let waits : IsSilent n term contacts old.settings old.ran.since left (core w.own) =
    subst (λ (s : Settings). IsSilent n term contacts s old.ran.since left (core w.own)) (sym w.goes_by)
    (subst (λ (k : ℕ). IsSilent n term contacts settings k left (core w.own)) (sym w.ran_is) w.waits)
    in
    let goes = subst (λ (k : ℕ). k ≤ ran_by k step.call) (sym w.ran_is) first in
    let comes = advance n term contacts left step.call step.told w.own old behind goes waits here does.told e in
    let comes_so : Comes n term contacts settings ran left step.call step.told behind =
    subst (λ (s : Settings). Comes n term contacts s ran left step.call step.told behind) w.goes_by
    (subst (λ (k : ℕ). Comes n term contacts old.settings k left step.call step.told behind) w.ran_is comes)
    in
    ⊎_elim
    (λ told. any_first (asks_for_votes n contacts) step.told (all_told more) told)
    (λ on.
    any_last (asks_for_votes n contacts) step.told (all_told more)
    (until_votes n term contacts (ran_by ran step.call) (left - counts half ran step.call) settings more behind new low high
    (outcome n step.call step.told old behind low sound does.does does.told).sound on.1 rest
    (and_last (tells_only (tells_of_none term contacts) n step.call) others fit) later
    (or_last (is_tick step.call && nat_eq (left - counts half ran step.call) 0) (passes_counted half (ran_by ran step.call) (left - counts half ran step.call) more) on.0 passed)))
    comes_so

-- at the beginning

whole_wait : (wait passed : ℕ) → wait ≤ passed + wait
whole_wait wait passed = omega (arith)

pub votes_in_time : VotesInTime
votes_in_time node status steps old new r so up follows passed =
    let i = running node old r.low r.high r.is_running in
    let here : i.own.status ≡ Some status = ap status_in (sym i.is) ∙ so in
    let stands : is_some i.own.down ≡ false = i.stands ∙ ap is_down_so here ∙ up in
    let contacts = contacts_of (slice_get old.monitors (node - 1)) in
    let wait = old.settings.timeout_ms + APART * node in
    let w : IsSilent node status.term contacts old.settings old.ran.since wait (core i.own) = record {
      id = i.timely.id;
      is_up = none_is i.own.down stands;
      status = status;
      is_status = here;
      stands = up;
      follows = follows;
      is_term = refl;
      heard = sym (ap contacts_of i.is);
      before = i.timely.heard;
      enough = whole_wait wait (old.ran.since - i.own.following.last_leader_contact.since);
    } in
    until_votes node status.term contacts old.ran.since wait old.settings steps old new r.low r.high i.sound
    (record { own = i.own; is = i.is; waits = w; goes_by = refl; ran_is = refl }) r.goes_on r.fit r.does passed

-- One of that many ticks is late enough.

counted_once : (gap half wait : ℕ) → 1 ≤ gap → 1 ≤ half → wait - min gap half ≤ wait - 1
counted_once gap half wait first last = omega (arith, first, last)

later_gap : (ran now : ℕ) → ran < now → 1 ≤ now - ran
later_gap ran now goes = omega (arith, goes)

fewer_left : (wait left count : ℕ) → left ≤ wait - 1 → wait ≤ suc count → left ≤ count
fewer_left wait left count first last = omega (arith, first, last)

is_left : (left : ℕ) → nat_eq left 0 ≡ false → 1 ≤ left
is_left zero none = absurd (cc none)
is_left (suc left) none = omega (arith)

ticks_by_count : (tick none more : Bool) → tick ≡ true → (none ≡ false → more ≡ true) → (tick && none || more) ≡ true
ticks_by_count true true more is rest = refl
ticks_by_count true false more is rest = rest refl
ticks_by_count false none more is rest = absurd (cc is)

ticks_count : (half ran wait : ℕ) (steps : List Step) → 1 ≤ half → 1 ≤ wait → wait ≤ length steps → EachTicks ran steps → passes_counted half ran wait steps ≡ true
unfolding EachTicks passes_counted
ticks_count half ran wait [] some waits most each = absurd (omega (arith, waits, most))
ticks_count half ran wait (step ∷ more) some waits most (ticks, later, each) =
    let now = ran_by ran step.call in
    let left = wait - min (now - ran) half in
    ticks_by_count (is_tick step.call) (nat_eq left 0) (passes_counted half now left more) ticks
    (λ none.
    ticks_count half now left more some (is_left left none)
    (fewer_left wait left (length more) (counted_once (now - ran) half wait (later_gap ran now later) some) most)
    each)

some_wait : (timeout more : ℕ) → 1 ≤ timeout / 2 → 1 ≤ timeout + more
some_wait zero more half = absurd (omega (arith, half))
some_wait (suc timeout) more half = omega (arith)

pub votes_in_ticks : VotesInTicks
votes_in_ticks node status steps old new r so up follows each half most =
    votes_in_time node status steps old new r so up follows
    (ticks_count (old.settings.timeout_ms / 2) old.ran.since (old.settings.timeout_ms + APART * node) steps half
    (some_wait old.settings.timeout_ms (APART * node) half) most each)
