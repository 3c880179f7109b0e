-- What leaves a node in its state, up or down, and what time sends it.
use Rattle.std.proofs.Common.{◌≡◌, ◌∙◌, ℕ, ◌+◌, ◌-◌, ◌≤◌, Bool, true, false, List, Option, Some, None, refl, sym, ap, subst, slice_get, arith}
use Rattle.std.specs.Prelude.{◌&&◌, if◌then◌else◌, is_some, nat_eq, option_map}
use Rattle.std.proofs.lemmas.Bool.{eqb-true}
use Rattle.bouncer_tower.specs.Bodies.{TowerBody}
use Rattle.buffer_commands.specs.declared.wire_line.WireLine.{WireLine}
use Rattle.node_notes.specs.declared.note.Note.{Note}
use Rattle.node_notes.specs.declared.note.Note.TheVariants as note
use Rattle.node_notes.specs.declared.status.Status.{Status}
use Rattle.node_notes.specs.Notes.{leads}
use Rattle.driver.specs.declared.node_monitor.standing.Outage.{Outage}
use Rattle.driver.specs.declared.clients.Clients.{Clients}
use Rattle.driver.specs.declared.node_monitor.NodeMonitor.{NodeMonitor}
use Rattle.driver.specs.declared.driver.Driver.{Driver}
use Rattle.driver.specs.declared.retirement.Retirement.{Retirement}
use Rattle.driver.specs.declared.settings.Settings.{Settings}
use Rattle.driver.specs.Monitors.{monitor_behind, is_over, is_to_beat, note_at, note_for, note_up, patience, told}
use Rattle.driver.specs.Driving.{TicksMonitor, changed_at, changed_if, clock_told, clocked, orders_of, tick_orders, ticked, told_of}
use Rattle.driver.specs.Retiring.{restart_at, restart_behind, restart_if}
use Rattle.driver.specs.Telling.{Ordered}
use Rattle.driver.proofs.Adding.{Adds, adds_both, nothing_adds}
use Rattle.driver.proofs.Monitors.{Ids, Look, get_other, get_same, ids_changed, look, look_in, ticked_look}
use Rattle.driver.proofs.Growing.{AllAre, AllGood, Grows, all_append, by_number}
use Rattle.driver.proofs.Restarts.{Plain, told_only}

-- a node in this state when it was last heard from is down
abbrev pub is_down_so : Option Status → Bool
is_down_so None = false
is_down_so (Some status) = is_some status.down

-- a monitor knows that its node is down, or up
abbrev pub StandsAs : Bool → Option NodeMonitor → Type 0
StandsAs down None = down ≡ false
StandsAs down (Some d) = (is_some d.down ≡ down) × (is_down_so d.status ≡ down)

-- The driver knows that a node is down, or up, and what each client orders fits.
pub record Steady (n : ℕ) (down : Bool) (driver : Driver) : Type 0 where
  pub good : AllGood (Plain n down) driver.clients
  pub ids : Ids driver.monitors
  pub at : StandsAs down (slice_get driver.monitors (n - 1))

-- What was ordered fits, and the node's state is unchanged.
pub record Stays (n : ℕ) (down : Bool) (old new : Driver) : Type 0 where
  pub adds : Adds (Plain n down) old.orders new.orders
  pub steady : Steady n down new

pub same_stays : (n : ℕ) (down : Bool) (old new : Driver) → Steady n down old → new ≡ old → Stays n down old new
same_stays n down old new steady same = record {
  adds = nothing_adds (Plain n down) old.orders new.orders (ap (λ (driver : Driver). driver.orders) same);
  steady = subst (λ (driver : Driver). Steady n down driver) (sym same) steady;
}

pub stays_both : (n : ℕ) (down : Bool) (old behind new : Driver) → Stays n down old behind → Stays n down behind new → Stays n down old new
stays_both n down old behind new first last = record {
  adds = adds_both (Plain n down) old.orders behind.orders new.orders first.adds last.adds;
  steady = last.steady;
}

-- if the monitors and the clients stay
pub orders_stay : (n : ℕ) (down : Bool) (old new : Driver) → Steady n down old → new.monitors ≡ old.monitors → new.clients ≡ old.clients → Adds (Plain n down) old.orders new.orders → Stays n down old new
orders_stay n down old new steady monitors clients adds = record {
  adds = adds;
  steady = record {
    good = subst (λ (clients : Clients). AllGood (Plain n down) clients) (sym clients) steady.good;
    ids = subst (λ (monitors : List NodeMonitor). Ids monitors) (sym monitors) steady.ids;
    at = subst (λ (monitors : List NodeMonitor). StandsAs down (slice_get monitors (n - 1))) (sym monitors) steady.at;
  };
}

-- if the monitors stay
pub grows_stay : (n : ℕ) (down : Bool) (old new : Driver) → Steady n down old → new.monitors ≡ old.monitors → Grows (Plain n down) (told_of old) (told_of new) → Stays n down old new
grows_stay n down old new steady monitors g = record {
  adds = record { told = g.told; orders = g.orders; all = g.all };
  steady = record {
    good = g.good;
    ids = subst (λ (monitors : List NodeMonitor). Ids monitors) (sym monitors) steady.ids;
    at = subst (λ (monitors : List NodeMonitor). StandsAs down (slice_get monitors (n - 1))) (sym monitors) steady.at;
  };
}

-- A change of one monitor.

pub own_changed : (change : NodeMonitor → NodeMonitor) (monitors : List NodeMonitor) (i : ℕ) (found : Option NodeMonitor) → slice_get monitors i ≡ found → slice_get (changed_if change monitors i found) i ≡ option_map change found
own_changed change monitors i None is = is
own_changed change monitors i (Some d) is = get_same monitors i d (change d) is

pub other_changed : (change : NodeMonitor → NodeMonitor) (monitors : List NodeMonitor) (i j : ℕ) (found : Option NodeMonitor) → (j ≡ i → ⊥) → slice_get (changed_if change monitors i found) j ≡ slice_get monitors j
other_changed change monitors i j None apart = refl
other_changed change monitors i j (Some d) apart = get_other monitors i j d (change d) apart

-- a change that leaves whether the node is down
abbrev pub KeepsStanding : (NodeMonitor → NodeMonitor) → Type 0
KeepsStanding change = (d : NodeMonitor) → (is_some (change d).down ≡ is_some d.down) × (is_down_so (change d).status ≡ is_down_so d.status)

pub as_kept : (down : Bool) (change : NodeMonitor → NodeMonitor) (found : Option NodeMonitor) → KeepsStanding change → StandsAs down found → StandsAs down (option_map change found)
as_kept down change None keeps at = at
as_kept down change (Some d) keeps (is, so) = let (same, also) = keeps d in (same ∙ is, also ∙ so)

pub changed_as : (n node : ℕ) (down : Bool) (change : NodeMonitor → NodeMonitor) (monitors : List NodeMonitor) → KeepsStanding change → StandsAs down (slice_get monitors (n - 1)) → StandsAs down (slice_get (changed_at change monitors node) (n - 1))
changed_as n node down change monitors keeps at =
    by_number (n - 1) (node - 1) (StandsAs down (slice_get (changed_at change monitors node) (n - 1)))
    (λ same.
    subst (λ (k : ℕ). StandsAs down (slice_get (changed_at change monitors node) k)) (sym same)
    (subst (λ (found : Option NodeMonitor). StandsAs down found) (sym (own_changed change monitors (node - 1) (slice_get monitors (node - 1)) refl))
    (as_kept down change (slice_get monitors (node - 1)) keeps (subst (λ (k : ℕ). StandsAs down (slice_get monitors k)) same at))))
    (λ apart.
    subst (λ (found : Option NodeMonitor). StandsAs down found)
    (sym (other_changed change monitors (node - 1) (n - 1) (slice_get monitors (node - 1)) apart)) at)

-- the monitor of the node itself has this state
pub own_stands : (n node : ℕ) (down : Bool) (monitors : List NodeMonitor) (d : NodeMonitor) → 1 ≤ n → Ids monitors → StandsAs down (slice_get monitors (n - 1)) → slice_get monitors (node - 1) ≡ Some d → nat_eq d.id n ≡ true → StandsAs down (Some d)
own_stands n node down monitors d low ids at is own =
    let id : d.id ≡ node - 1 + 1 = ids (node - 1) (look d) (ap look_in is) in
    let same : d.id ≡ n = eqb-true d.id n own in
    let place : node - 1 ≡ n - 1 = omega (arith, id, same) in
    subst (λ (found : Option NodeMonitor). StandsAs down found) (subst (λ (k : ℕ). slice_get monitors k ≡ Some d) place is) at

-- The notes of the clock and of the retirement of its runs.

-- nothing, or to start again
abbrev pub IsRestart : Option (Note TowerBody WireLine) → Type 0
IsRestart None = Unit {0}
IsRestart (Some came) = came ≡ note.Restart

pub note_plain : (n : ℕ) (down : Bool) (id : ℕ) (came : Option (Note TowerBody WireLine)) → ((down && nat_eq id n) ≡ true → IsRestart came) → AllAre (Plain n down) (told id came)
unfolding AllAre
note_plain n down id None is = tt
note_plain n down id (Some came) is = ((told_only down (nat_eq id n) came is, refl), tt)

restart_or : (b : Bool) → IsRestart (if b then Some note.Restart else None)
restart_or true = refl
restart_or false = tt

outlived_only : (d : NodeMonitor) (floor : Option ℕ) → IsRestart (restart_if d floor)
outlived_only d None = tt
outlived_only d (Some floor) = restart_or _

clock_only : (d : NodeMonitor) (settings : Settings) (now : ℕ) (status : Option Status) (down : Option Outage) → is_some down ≡ true → IsRestart (note_for d settings now status down)
unfolding note_for
clock_only d settings now None down is = tt
clock_only d settings now (Some status) (Some outage) is = restart_or (is_over outage.since outage.wait_ms now)
clock_only d settings now (Some status) None is = absurd (cc is)

-- if two things hold, each does
both_first : (a b : Bool) → (a && b) ≡ true → a ≡ true
both_first true b is = refl
both_first false b is = absurd (cc is)

pub both_last : (a b : Bool) → (a && b) ≡ true → b ≡ true
both_last true b is = is
both_last false b is = absurd (cc is)

tick_plain : (n : ℕ) (down : Bool) (node : ℕ) (orders : Ordered) (retirements : List (Option Retirement)) (settings : Settings) (now : ℕ) (monitors : List NodeMonitor) (found : Option NodeMonitor) → 1 ≤ n → Ids monitors → StandsAs down (slice_get monitors (n - 1)) → slice_get monitors (node - 1) ≡ found → AllAre (Plain n down) (orders_of (tick_orders orders retirements settings now) found)
unfolding AllAre
tick_plain n down node orders retirements settings now monitors None low ids at is = tt
tick_plain n down node orders retirements settings now monitors (Some d) low ids at is =
    let behind = clocked orders settings now d in
    all_append (Plain n down) (told d.id (note_at d settings now)) (told behind.id (restart_at retirements behind))
    (note_plain n down d.id (note_at d settings now) (λ both.
    let (here, so) = own_stands n node down monitors d low ids at is (both_last down (nat_eq d.id n) both) in
    clock_only d settings now d.status d.down (here ∙ both_first down (nat_eq d.id n) both)))
    (note_plain n down behind.id (restart_at retirements behind) (λ both. outlived_only behind _))

-- what the clock changes in a monitor does not change whether its node is down
restarted_down : (b : Bool) (orders : Ordered) (d : NodeMonitor) (now : ℕ) (outage : Outage) → d.down ≡ Some outage → is_some (monitor_behind orders d now (if b then Some note.Restart else None)).down ≡ is_some d.down
unfolding monitor_behind
restarted_down true orders d now outage is = sym (ap (λ (down : Option Outage). is_some down) is)
restarted_down false orders d now outage is = refl

up_down : (leads beats waited : Bool) (orders : Ordered) (d : NodeMonitor) (now contacts : ℕ) → is_some (monitor_behind orders d now (if leads then (if beats then Some note.Beat else None) else (if waited then Some (note.Timeout contacts) else None))).down ≡ is_some d.down
unfolding monitor_behind
up_down true true waited orders d now contacts = refl
up_down true false waited orders d now contacts = refl
up_down false beats true orders d now contacts = refl
up_down false beats false orders d now contacts = refl

clocked_down : (orders : Ordered) (settings : Settings) (now : ℕ) (d : NodeMonitor) (status : Option Status) (down : Option Outage) → d.down ≡ down → is_some (monitor_behind orders d now (note_for d settings now status down)).down ≡ is_some d.down
unfolding note_for note_up monitor_behind
clocked_down orders settings now d None down is = refl
clocked_down orders settings now d (Some status) (Some outage) is = restarted_down (is_over outage.since outage.wait_ms now) orders d now outage is
clocked_down orders settings now d (Some status) None is =
    up_down (leads status) (is_to_beat d settings now) (is_over d.following.last_leader_contact (patience settings d.id) now) orders d now d.progress.contacts

outlived_down : (orders : Ordered) (came : Option (Note TowerBody WireLine)) (d : NodeMonitor) → is_some (restart_behind orders d came).down ≡ is_some d.down
outlived_down orders None d = refl
outlived_down orders (Some came) d = refl

ticked_keeps : (orders : Ordered) (retirements : List (Option Retirement)) (settings : Settings) (now : ℕ) → KeepsStanding (ticked orders retirements settings now)
ticked_keeps orders retirements settings now d =
    let behind = clocked orders settings now d in (
      outlived_down (clock_told orders settings now d) (restart_at retirements behind) behind ∙ clocked_down orders settings now d d.status d.down refl,
      ap (λ (x : Look). is_down_so x.status) (ticked_look orders retirements settings now d),
    )

pub monitor_stays : (n now node : ℕ) (down : Bool) (old new : Driver) → 1 ≤ n → Steady n down old → TicksMonitor now node old new → Stays n down old new
monitor_stays n now node down old new low steady t =
    let change : NodeMonitor → NodeMonitor = ticked old.orders old.retirements.all old.settings now in
    record {
      adds = record {
        told = orders_of (tick_orders old.orders old.retirements.all old.settings now) (slice_get old.monitors (node - 1));
        orders = t.orders;
        all = tick_plain n down node old.orders old.retirements.all old.settings now old.monitors (slice_get old.monitors (node - 1)) low steady.ids steady.at refl;
      };
      steady = record {
        good = subst (λ (clients : Clients). AllGood (Plain n down) clients) (sym (ap (λ (driver : Driver). driver.clients) t.rest)) steady.good;
        ids =
            subst (λ (monitors : List NodeMonitor). Ids monitors) (sym t.monitors)
            (ids_changed change (λ d. ap (λ (x : Look). x.id) (ticked_look old.orders old.retirements.all old.settings now d)) old.monitors node steady.ids);
        at =
            subst (λ (monitors : List NodeMonitor). StandsAs down (slice_get monitors (n - 1))) (sym t.monitors)
            (changed_as n node down change old.monitors (ticked_keeps old.orders old.retirements.all old.settings now) steady.at);
      };
    }
