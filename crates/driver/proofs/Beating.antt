-- A leader is asked to send in time if it reports that it did all earlier notes.
use Rattle.std.proofs.Common.{◌≡◌, ◌∙◌, ◌⊎◌, ℕ, ◌+◌, ◌-◌, ◌≤◌, Bool, true, false, List, [], ◌∷◌, Some, refl, sym, ap, subst, slice_get, ⊎_elim}
use Rattle.std.specs.Prelude.{◌&&◌, ◌||◌, if◌then◌else◌, is_some, nat_eq, nat_le}
use Rattle.std.specs.List.{list_all}
use Rattle.std.proofs.lemmas.Bool.{cases_Bool, eqb-true, leb-true}
use Rattle.wire_bytes.specs.declared.moment.Moment.{Moment}
use Rattle.client_gate.specs.Gates.{GateEffect}
use Rattle.node_notes.specs.declared.note.Note.TheVariants as note
use Rattle.node_notes.specs.declared.progress.Progress.{Progress}
use Rattle.node_notes.specs.declared.status.Status.{Status}
use Rattle.driver.specs.declared.driver.Driver.{Driver}
use Rattle.driver.specs.declared.node_monitor.NodeMonitor.{NodeMonitor}
use Rattle.driver.specs.declared.order.Order.{Order}
use Rattle.driver.specs.declared.settings.Settings.{Settings}
use Rattle.driver.specs.Calls.{Call, Does, DoesAll, IsTold, Step}
use Rattle.driver.specs.Calls.{Connect, Connected, Dismiss, End, Hand, Hear, Lose, Notice, Receive, ReceiveLine, Refuse, Take, Tick, Watch, WatchNodes, WatchPasswords}
use Rattle.driver.specs.Counting.{all_told}
use Rattle.driver.specs.Hearing.{heard_behind}
use Rattle.driver.specs.Links.{status_in}
use Rattle.driver.specs.Reports.{Hears}
use Rattle.driver.specs.Schedule.{BeatsBehindReports, beats, did, did_then_passes, one_orders, passes, tells_only}
use Rattle.driver.specs.Telling.{ordered, told_to}
use Rattle.driver.proofs.Awaiting.{Waits, until}
use Rattle.driver.proofs.Beaten.{IsDue, Ticks, advance as due_advance, clock_due, leads_none, none_is, sooner, tells_leading}
use Rattle.driver.proofs.Clocking.{hear_clocks}
use Rattle.driver.proofs.Clocks.{Clocks, woken}
use Rattle.driver.proofs.Counting.{in_all}
use Rattle.driver.proofs.Events.{any_first, any_last, event}
use Rattle.driver.proofs.Keeping.{Sound}
use Rattle.driver.proofs.Marking.{all_of, same_now}
use Rattle.driver.proofs.Moves.{Base, core}
use Rattle.driver.proofs.Noted.{Counted, both_below, call_counts, more_counts, running_noted, told_is}
use Rattle.driver.proofs.OneClaim.{outcome}
use Rattle.driver.proofs.Staying.{is_down_so}
use Rattle.driver.proofs.BeatsDue.{IsLeading, advance, all_in, done_by, heard_leading, heard_progress, leading_due, woken_leading}

-- A report that it did all notes up to this one.
record OwnReport (n number : ℕ) (call : Call) (old new : Driver) : Type 0 where
  now : ℕ
  moment : Moment
  status : Status
  effects : List GateEffect
  progress : Progress
  refused : Bool
  hears : Hears now moment n status effects progress refused old new
  done : number ≤ progress.done
  given : (told : List Order) → IsTold call told old.orders new.orders → new.orders ≡ ordered old.orders told
  said : (fits : Status → Progress → Bool) → tells_only fits n call ≡ true → fits status progress ≡ true

and_first : (a b : Bool) → (a && b) ≡ true → a ≡ true
and_first true b is = refl
and_first false b is = absurd (cc is)

and_last : (a b : Bool) → (a && b) ≡ true → b ≡ true
and_last true b is = is
and_last false b is = absurd (cc is)

if_so : (b x : Bool) → b ≡ true → (if b then x else true) ≡ true → x ≡ true
if_so true x is said = said
if_so false x is said = absurd (cc is)

own_report : (n number : ℕ) (call : Call) (old new : Driver) → did n number call ≡ true → Does call old new → OwnReport n number call old new
own_report n number (Hear now moment node status effects progress refused) old new is r =
    let own = and_first (nat_eq node n) (nat_le number progress.done) is in
    record {
      now = now;
      moment = moment;
      status = status;
      effects = effects;
      progress = progress;
      refused = refused;
      hears = subst (λ (k : ℕ). Hears now moment k status effects progress refused old new) (eqb-true node n own) r.hears;
      done = leb-true number progress.done (and_last (nat_eq node n) (nat_le number progress.done) is);
      given = λ told is. is;
      said = λ fits said. if_so (nat_eq node n) (fits status progress) own said;
    }
own_report n number (Connect now node) old new is does = absurd (cc is)
own_report n number (Receive bytes now moment client) old new is does = absurd (cc is)
own_report n number (Lose now moment client) old new is does = absurd (cc is)
own_report n number (Hand node line) old new is does = absurd (cc is)
own_report n number (Tick now moment) old new is does = absurd (cc is)
own_report n number (Connected now) old new is does = absurd (cc is)
own_report n number (ReceiveLine now moment bytes) old new is does = absurd (cc is)
own_report n number (End now why) old new is does = absurd (cc is)
own_report n number (Notice text) old new is does = absurd (cc is)
own_report n number (Dismiss now moment) old new is does = absurd (cc is)
own_report n number Watch old new is does = absurd (cc is)
own_report n number (WatchNodes now) old new is does = absurd (cc is)
own_report n number (WatchPasswords now) old new is does = absurd (cc is)
own_report n number (Refuse client) old new is does = absurd (cc is)
own_report n number Take old new is does = absurd (cc is)

-- After it the next beat is due.
report_due : (n number moment : ℕ) (settings : Settings) (call : Call) (told : List Order) (d : NodeMonitor) (old new : Driver) → 1 ≤ n → Sound n old → slice_get old.monitors (n - 1) ≡ Some d → old.settings ≡ settings → IsLeading n number moment settings.beat_ms (core d) → Counted n (in_all old.orders) → number ≤ all_of n old → tells_only tells_leading n call ≡ true → IsTold call told old.orders new.orders → (r : OwnReport n number call old new) → Ticks n moment settings.beat_ms settings told r.now new
report_due n number moment settings call told d old new low sound found goes_by w counted most fit is r =
    let h = hear_clocks n r.now r.moment r.status r.effects r.progress r.refused d old new low sound found r.hears in
    let count = told_to h.heard d.id in
    let behind = heard_behind (woken old r.now d) r.now count r.status r.progress in
    let leading = heard_leading n number moment settings.beat_ms r.now count r.status r.progress (woken old r.now d) (r.said tells_leading fit) (woken_leading n number moment settings.beat_ms r.now old d w) in
    let on = more_counts n old.orders h.heard h.more counted in
    let same : count ≡ all_in n h.heard = ap (λ (k : ℕ). told_to h.heard k) w.id ∙ told_is n h.heard in
    let reached : number ≤ count = subst (λ (k : ℕ). number ≤ k) (sym same) (both_below number (all_of n old) (all_in n h.heard) most on.more) in
    let done : number ≤ behind.progress.done =
    subst (λ (p : Progress). number ≤ p.done) (sym (heard_progress (woken old r.now d) r.now count r.status r.progress))
    (done_by number d.progress.done r.progress.done count r.done reached)
    in
    clock_due n moment r.now settings behind old new told
    (subst (λ (s : Settings). Clocks n r.now s behind old new) goes_by h.clocks)
    (leading_due n number moment settings.beat_ms (core behind) leading done)
    (ap (λ (b : Base). b.settings) h.based ∙ goes_by) (r.given told is)

or_last : (a b : Bool) → a ≡ false → (a || b) ≡ true → b ≡ true
or_last true b none is = absurd (cc none)
or_last false b none is = is

-- call by call
until_reported : (n number moment : ℕ) (settings : Settings) (steps : List Step) (old new : Driver) → 1 ≤ n → n ≤ 7 → Sound n old → Waits n (IsLeading n number moment settings.beat_ms) settings old → Counted n (in_all old.orders) → number ≤ all_of n old → list_all (λ (step : Step). tells_only tells_leading n step.call) steps ≡ true → DoesAll steps old new → did_then_passes n number moment steps ≡ true → one_orders (beats n) steps ≡ true
unfolding DoesAll all_told did_then_passes
until_reported n number moment settings [] old new low high sound w counted most fit same passed = absurd (cc passed)
until_reported n number moment settings (step ∷ more) old new low high sound w counted most fit (behind, does, rest) passed =
    let others = list_all (λ (step : Step). tells_only tells_leading n step.call) more in
    let here = and_first (tells_only tells_leading n step.call) others fit in
    let there = and_last (tells_only tells_leading n step.call) others fit in
    let next = (outcome n step.call step.told old behind low sound does.does does.told).sound in
    let on = call_counts n step.call step.told old behind counted does.does does.told in
    ⊎_elim
    (λ now.
    let r = own_report n number step.call old behind (and_first (did n number step.call) (passes moment more) now) does.does in
    ⊎_elim
    (λ told. any_first (beats n) step.told (all_told more) told)
    (λ waits.
    any_last (beats n) step.told (all_told more)
    (until n (IsDue n moment settings.beat_ms) (beats n) tells_leading moment settings (due_advance n moment settings) more behind new low high next waits.1 there rest
    (and_last (did n number step.call) (passes moment more) now)))
    (report_due n number moment settings step.call step.told w.own old behind low sound w.is w.goes_by w.waits counted most here does.told r))
    (λ later.
    ⊎_elim
    (λ told. any_first (beats n) step.told (all_told more) told)
    (λ waits.
    any_last (beats n) step.told (all_told more)
    (until_reported n number moment settings more behind new low high next waits on.counted (both_below number (all_of n old) (all_of n behind) most on.more) there rest
    (or_last (did n number step.call && passes moment more) (did_then_passes n number moment more) later passed)))
    (advance n number moment settings step.call step.told w.own old behind w.goes_by w.waits here does.told (event n step.call w.own old behind low high sound w.is does.does)))
    (cases_Bool (did n number step.call && passes moment more))

pub beats_behind_reports : BeatsBehindReports
beats_behind_reports node status steps old new r so leader passed =
    let noted = running_noted node old r.low r.high r.is_running in
    let i = noted.in_time in
    let here : i.own.status ≡ Some status = ap status_in (sym i.is) ∙ so in
    let up : is_some i.own.down ≡ false = i.stands ∙ ap is_down_so here ∙ leads_none status.role status.down leader in
    let number = told_to old.orders node in
    let w : IsLeading node number (old.ran.since + old.settings.beat_ms) old.settings.beat_ms (core i.own) = record {
      id = i.timely.id;
      is_up = none_is i.own.down up;
      status = status;
      is_status = here;
      is_leader = leader;
      told = subst (λ (k : ℕ). i.own.beat.note ≤ k) (sym (told_is node old.orders)) noted.beat;
      in_time = sooner i.own.beat.at.since old.ran.since old.settings.beat_ms i.timely.beat;
    } in
    until_reported node number (old.ran.since + old.settings.beat_ms) old.settings steps old new r.low r.high i.sound
    (record { own = i.own; is = i.is; waits = w; goes_by = refl }) noted.counted
    (subst (λ (k : ℕ). k ≤ all_of node old) (sym (told_is node old.orders)) (same_now (all_of node old))) r.fit r.does passed
