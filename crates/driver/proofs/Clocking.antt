-- What a report sends a node, as the clock finds its monitor.
use Rattle.std.proofs.Common.{◌≡◌, ◌∙◌, ℕ, ◌-◌, ◌≤◌, Bool, true, false, List, Some, ap, subst, slice_get}
use Rattle.wire_bytes.specs.declared.moment.Moment.{Moment}
use Rattle.client_gate.specs.Gates.{GateEffect}
use Rattle.node_notes.specs.declared.progress.Progress.{Progress}
use Rattle.node_notes.specs.declared.status.Status.{Status}
use Rattle.driver.specs.declared.driver.Driver.{Driver}
use Rattle.driver.specs.declared.node_monitor.NodeMonitor.{NodeMonitor}
use Rattle.driver.specs.declared.settings.Settings.{Settings}
use Rattle.driver.specs.Driving.{told_of}
use Rattle.driver.specs.Hearing.{heard_behind}
use Rattle.driver.specs.Reports.{BeginsIf, Hears, heard_at}
use Rattle.driver.specs.Telling.{Ordered, told_to}
use Rattle.driver.specs.Waking.{awake}
use Rattle.driver.proofs.Adding.{passes_grow}
use Rattle.driver.proofs.Keeping.{Sound, keeps_both}
use Rattle.driver.proofs.Moves.{Base, Found, Rests, base, changed_here, monitors_of, other_rests, passes_rest, rests_both, rests_by, rests_same}
use Rattle.driver.proofs.Quiet.{NoClaim}
use Rattle.driver.proofs.Reporting.{awake_keeps, begins_keep, grows_keep, stood_adds, stood_sound, words_by}
use Rattle.driver.proofs.Clocks.{Clocks, More, kept_more, more_both, node_based, node_clocks, node_rests, rests_clock, woken, woken_is}

-- A worker reports.

begins_rest : (n : ℕ) (begins : Bool) (now : ℕ) (at : Moment) (node boot : ℕ) (old new : Driver) → BeginsIf begins now at node boot old new → Rests n old new
begins_rest n false now at node boot old new same = rests_by n old new same
begins_rest n true now at node boot old new b = rests_same n old new (ap monitors_of b.rest) (ap base b.rest)

-- What a report of the node itself does to it.
pub record HearClocks (n now : ℕ) (status : Status) (progress : Progress) (d : NodeMonitor) (old new : Driver) : Type 0 where
  pub heard : Ordered
  pub more : More old.orders heard
  pub clocks : Clocks n now old.settings (heard_behind (woken old now d) now (told_to heard d.id) status progress) old new
  pub based : base new ≡ base (awake now old)

pub hear_clocks : (n now : ℕ) (at : Moment) (status : Status) (effects : List GateEffect) (progress : Progress) (refused : Bool) (d : NodeMonitor) (old new : Driver) → 1 ≤ n → Sound n old → slice_get old.monitors (n - 1) ≡ Some d → Hears now at n status effects progress refused old new → HearClocks n now status progress d old new
hear_clocks n now at status effects progress refused d old new low sound is h =
    let up = awake now old in
    let first = awake_keeps n now old sound in
    let (grows, same) = passes_grow (NoClaim n) now at n effects up h.passed sound.good h.passes in
    let passed = grows_keep n up h.passed first.sound same grows in
    let passed_more = kept_more n up h.passed passed in
    let change : NodeMonitor → NodeMonitor = λ m. heard_behind m now (told_to h.passed.orders m.id) status progress in
    let here : slice_get h.passed.monitors (n - 1) ≡ Some (woken old now d) =
    ap (λ (monitors : List NodeMonitor). slice_get monitors (n - 1)) same ∙ woken_is n now d old is
    in
    let there : slice_get h.stood.monitors (n - 1) ≡ Some (change (woken old now d)) =
    ap (λ (monitors : List NodeMonitor). slice_get monitors (n - 1)) h.stands.monitors ∙ changed_here n change h.passed.monitors (woken old now d) here
    in
    let stood = stood_sound n now n status progress refused h.passed h.stood passed.sound h.stands in
    let added = stood_adds n now n status progress refused h.passed h.stood h.stands in
    let worded =
    grows_keep n h.stood h.worded stood (ap monitors_of h.is_worded)
    (words_by n status.down refused (heard_at h.passed n status progress).has_lost now at n h.stood (told_of h.stood) (told_of h.worded) stood.good h.words)
    in
    let begins = (heard_at h.passed n status progress).is_new in
    let begun = begins_keep n begins now at n status.boot h.worded h.begun worded.sound h.begins in
    let rests =
    rests_both n h.stood h.worded h.begun (rests_same n h.stood h.worded (ap monitors_of h.is_worded) (ap base h.is_worded))
    (begins_rest n begins now at n status.boot h.worded h.begun h.begins)
    in
    let f = rests.found (change (woken old now d)) there in
    let based : base h.begun ≡ base up = rests.based ∙ ap base h.stands.rest ∙ (passes_rest n now at n effects up h.passed h.passes).based in
    let settings : h.begun.settings ≡ old.settings = ap (λ (b : Base). b.settings) based in
    let clocks =
    subst (λ (settings : Settings). Clocks n now settings f.behind h.begun new) settings
    (node_clocks n now f.behind h.begun new low begun.sound f.is h.ticks)
    in
    let more =
    more_both old.orders h.passed.orders h.begun.orders passed_more
    (more_both h.passed.orders h.stood.orders h.begun.orders (record { told = added.told; orders = added.orders })
    (kept_more n h.stood h.begun (keeps_both n h.stood h.worded h.begun worded begun)))
    in
    let whole = rests_clock n now old.settings (change (woken old now d)) old h.begun new more f clocks in
    record {
      heard = h.passed.orders;
      more = passed_more;
      clocks = whole;
      based = node_based now n h.begun new h.ticks ∙ based;
    }

-- What a report of another node does to it.
pub record HearsOther (n now : ℕ) (d : NodeMonitor) (old new : Driver) : Type 0 where
  pub found : Found n (woken old now d) new
  pub based : base new ≡ base (awake now old)

pub hears_other : (n now : ℕ) (at : Moment) (node : ℕ) (status : Status) (effects : List GateEffect) (progress : Progress) (refused : Bool) (d : NodeMonitor) (old new : Driver) → (n - 1 ≡ node - 1 → ⊥) → slice_get old.monitors (n - 1) ≡ Some d → Hears now at node status effects progress refused old new → HearsOther n now d old new
hears_other n now at node status effects progress refused d old new apart is h =
    let up = awake now old in
    let change : NodeMonitor → NodeMonitor = λ m. heard_behind m now (told_to h.passed.orders m.id) status progress in
    let first = passes_rest n now at node effects up h.passed h.passes in
    let stood = other_rests n node change h.passed h.stood apart h.stands.monitors (ap base h.stands.rest) in
    let worded = rests_same n h.stood h.worded (ap monitors_of h.is_worded) (ap base h.is_worded) in
    let begun = begins_rest n (heard_at h.passed node status progress).is_new now at node status.boot h.worded h.begun h.begins in
    let ticked = node_rests n now node h.begun new apart h.ticks in
    let all =
    rests_both n up h.begun new
    (rests_both n up h.worded h.begun (rests_both n up h.stood h.worded (rests_both n up h.passed h.stood first stood) worded) begun)
    ticked
    in
    record {
      found = all.found (woken old now d) (woken_is n now d old is);
      based = all.based;
    }
