-- What a node waits for is ordered once time passes to its moment.
use Rattle.std.proofs.Common.{◌≡◌, ◌⊎◌, ℕ, ◌-◌, ◌≤◌, Bool, true, false, List, [], ◌∷◌, Some, refl, sym, subst, slice_get, ⊎_elim}
use Rattle.std.specs.Prelude.{◌&&◌, ◌||◌}
use Rattle.std.specs.List.{list_all, list_any}
use Rattle.node_notes.specs.declared.progress.Progress.{Progress}
use Rattle.node_notes.specs.declared.status.Status.{Status}
use Rattle.driver.specs.declared.driver.Driver.{Driver}
use Rattle.driver.specs.declared.node_monitor.NodeMonitor.{NodeMonitor}
use Rattle.driver.specs.declared.order.Order.{Order}
use Rattle.driver.specs.declared.settings.Settings.{Settings}
use Rattle.driver.specs.Calls.{Call, DoesAll, IsTold, Step}
use Rattle.driver.specs.Counting.{all_told}
use Rattle.driver.specs.Schedule.{one_orders, passes, tells_only, ticks_by}
use Rattle.driver.proofs.Events.{Event, any_first, any_last, event}
use Rattle.driver.proofs.Keeping.{Sound}
use Rattle.driver.proofs.Moves.{Core, Found, core}
use Rattle.driver.proofs.OneClaim.{outcome}

-- A node waits like this, by what is known of it.
pub record Waits (n : ℕ) (W : Core → Type 0) (settings : Settings) (driver : Driver) : Type 0 where
  pub own : NodeMonitor
  pub is : slice_get driver.monitors (n - 1) ≡ Some own
  pub waits : W (core own)
  pub goes_by : driver.settings ≡ settings

pub found_waits : (n : ℕ) (W : Core → Type 0) (settings : Settings) (d : NodeMonitor) (new : Driver) → new.settings ≡ settings → Found n d new → W (core d) → Waits n W settings new
found_waits n W settings d new goes_by f w = record {
  own = f.behind;
  is = f.is;
  waits = subst W (sym f.same) w;
  goes_by = goes_by;
}

-- A call orders it, or the node waits on and time has not passed to the moment.
abbrev pub Comes : ℕ → (Core → Type 0) → (Order → Bool) → ℕ → Settings → Call → List Order → Driver → Type 0
Comes n W is moment settings call told new = (list_any is told ≡ true) ⊎ ((ticks_by moment call ≡ false) × Waits n W settings new)

abbrev pub Advance : ℕ → (Core → Type 0) → (Order → Bool) → (Status → Progress → Bool) → ℕ → Settings → Type 0
Advance n W is fits moment settings =
    (call : Call) (told : List Order) (d : NodeMonitor) (old new : Driver)
    → old.settings ≡ settings → W (core d) → tells_only fits n call ≡ true → IsTold call told old.orders new.orders
    → Event n call d old new → Comes n W is moment settings call told new

and_first : (a b : Bool) → (a && b) ≡ true → a ≡ true
and_first true b is = refl
and_first false b is = absurd (cc is)

and_last : (a b : Bool) → (a && b) ≡ true → b ≡ true
and_last true b is = is
and_last false b is = absurd (cc is)

or_last : (a b : Bool) → a ≡ false → (a || b) ≡ true → b ≡ true
or_last true b none is = absurd (cc none)
or_last false b none is = is

pub until : (n : ℕ) (W : Core → Type 0) (is : Order → Bool) (fits : Status → Progress → Bool) (moment : ℕ) (settings : Settings) → Advance n W is fits moment settings → (steps : List Step) (old new : Driver) → 1 ≤ n → n ≤ 7 → Sound n old → Waits n W settings old → list_all (λ (step : Step). tells_only fits n step.call) steps ≡ true → DoesAll steps old new → passes moment steps ≡ true → one_orders is steps ≡ true
unfolding DoesAll all_told
until n W is fits moment settings advance [] old new low high sound w fit same passed = absurd (cc passed)
until n W is fits moment settings advance (step ∷ more) old new low high sound w fit (behind, does, rest) passed =
    let e = event n step.call w.own old behind low high sound w.is does.does in
    let others = list_all (λ (step : Step). tells_only fits n step.call) more in
    let here = and_first (tells_only fits n step.call) others fit in
    ⊎_elim
    (λ told. any_first is step.told (all_told more) told)
    (λ waits.
    any_last is step.told (all_told more)
    (until n W is fits moment settings advance more behind new low high (outcome n step.call step.told old behind low sound does.does does.told).sound waits.1
    (and_last (tells_only fits n step.call) others fit) rest
    (or_last (ticks_by moment step.call) (passes moment more) waits.0 passed)))
    (advance step.call step.told w.own old behind w.goes_by w.waits here does.told e)
