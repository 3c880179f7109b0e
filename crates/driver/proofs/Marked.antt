-- What each call does to what is known of the last claim of a node.
use Rattle.std.proofs.Common.{◌≡◌, ◌∙◌, ℕ, ◌+◌, ◌-◌, ◌≤◌, Bool, true, false, List, [], ◌∷◌, Option, Some, None, refl, sym, ap, subst, slice_get, arith}
use Rattle.std.specs.Prelude.{max, min, option_map}
use Rattle.wire_bytes.specs.declared.moment.Moment.{Moment}
use Rattle.client_gate.specs.Gates.{GateEffect}
use Rattle.node_notes.specs.declared.note.Note.TheVariants as note
use Rattle.node_notes.specs.declared.progress.Progress.{Progress}
use Rattle.node_notes.specs.declared.status.Status.{Status}
use Rattle.driver.specs.declared.driver.Driver.{Driver}
use Rattle.driver.specs.declared.driver.writing.TheConstants.{MOST_AT_ONCE}
use Rattle.driver.specs.declared.node_monitor.NodeMonitor.{NodeMonitor}
use Rattle.driver.specs.declared.node_monitor.standing.Claimed.{Claimed}
use Rattle.driver.specs.declared.order.Order.TheVariants.{Submit}
use Rattle.driver.specs.Dropping.{drop_end}
use Rattle.driver.specs.Driving.{Claims, ServesIf, orders_of, told_of}
use Rattle.driver.specs.Hearing.{heard_behind, progressed, settled}
use Rattle.driver.specs.Leading.{is_that}
use Rattle.driver.specs.Monitors.{claim_at, claim_due, claim_if, claim_told, monitor_claimed, told}
use Rattle.driver.specs.Reports.{Hears, heard_at}
use Rattle.driver.specs.Telling.{Ordered, next_note, ordered, told_to}
use Rattle.driver.specs.Waking.{awake}
use Rattle.driver.specs.Writing.{may_claim}
use Rattle.driver.proofs.Adding.{passes_grow}
use Rattle.driver.proofs.Claiming.{claim_change, claims_sound}
use Rattle.driver.proofs.Clocks.{More, kept_more, more_both, more_none, woken, woken_is}
use Rattle.driver.proofs.Keeping.{Keeps, Line, Sound, connects_keep, drop_keeps, keeps_both, writes_keep}
use Rattle.driver.proofs.Monitors.{Look, changed_own, look, look_at, look_in}
use Rattle.driver.proofs.Moves.{changed_here, monitors_of}
use Rattle.driver.proofs.Quiet.{NoClaim}
use Rattle.driver.proofs.Reporting.{awake_keeps, begins_keep, grows_keep, heard_look, stood_adds, stood_sound, words_by}
use Rattle.driver.proofs.Served.{Turn, node_turn}

-- What is known of a node afterwards: the same, or that it was just asked for a claim.
pub data Trace (n now : ℕ) (was : Option Look) (before : Ordered) (new : Driver) : Type 0 where
  Same : look_at new.monitors (n - 1) ≡ was → Trace n now was before new
  Anew :
      (x : Look) (claim : Claimed) (orders : Ordered)
      → look_at new.monitors (n - 1) ≡ Some (record { id = x.id; claimed = Some claim; status = x.status })
      → claim.at.since ≡ now → claim.note ≡ next_note orders n
      → More before orders → More (ordered orders (Submit n note.Claim ∷ [])) new.orders
      → Trace n now was before new

abbrev pub seen : ℕ → Driver → Option Look
seen n driver = look_at driver.monitors (n - 1)

keeps_trace : (n now : ℕ) (old mid new : Driver) → Keeps n old mid → Trace n now (seen n mid) mid.orders new → Trace n now (seen n old) old.orders new
keeps_trace n now old mid new k (Same is) = Same (is ∙ k.same)
keeps_trace n now old mid new k (Anew x claim orders is since number more last) =
    Anew x claim orders is since number (more_both old.orders mid.orders orders (kept_more n old mid k) more) last

trace_keeps : (n now : ℕ) (was : Option Look) (before : Ordered) (mid new : Driver) → Trace n now was before mid → Keeps n mid new → Trace n now was before new
trace_keeps n now was before mid new (Same is) k = Same (k.same ∙ is)
trace_keeps n now was before mid new (Anew x claim orders is since number more last) k =
    Anew x claim orders (k.same ∙ is) since number more
    (more_both (ordered orders (Submit n note.Claim ∷ [])) mid.orders new.orders last (kept_more n mid new k))

told_so : (n : ℕ) (before after : Ordered) (id : ℕ) → id ≡ n → after ≡ ordered before (Submit id note.Claim ∷ []) → More (ordered before (Submit n note.Claim ∷ [])) after
told_so n before after id own is =
    let same : after ≡ ordered before (Submit n note.Claim ∷ []) = subst (λ (k : ℕ). after ≡ ordered before (Submit k note.Claim ∷ [])) own is in
    subst (λ (orders : Ordered). More (ordered before (Submit n note.Claim ∷ [])) orders) (sym same) (more_none (ordered before (Submit n note.Claim ∷ [])))

claims_by : (n now : ℕ) (old new : Driver) (d : NodeMonitor) (may : Bool) (due : Option Line) → d.id ≡ n → slice_get old.monitors (n - 1) ≡ Some d → seen n new ≡ Some (look (monitor_claimed old.orders d now may due)) → new.orders ≡ ordered old.orders (told d.id (claim_if may due)) → Trace n now (seen n old) old.orders new
claims_by n now old new d may None own is changed orders = Same (changed ∙ sym (ap look_in is))
claims_by n now old new d false (Some line) own is changed orders = Same (changed ∙ sym (ap look_in is))
claims_by n now old new d true (Some line) own is changed orders =
    Anew (look d) (claim_told old.orders d now line) old.orders changed refl (ap (λ (k : ℕ). next_note old.orders k) own) (more_none old.orders)
    (told_so n old.orders new.orders d.id own orders)

claims_found : (n now : ℕ) (old new : Driver) (found : Option NodeMonitor) → 1 ≤ n → Sound n old → slice_get old.monitors (n - 1) ≡ found → seen n new ≡ look_in (option_map (claim_change old now (may_claim old now)) found) → new.orders ≡ ordered old.orders (orders_of (λ d. told d.id (claim_at d old.settings now (may_claim old now))) found) → Trace n now (seen n old) old.orders new
claims_found n now old new None low sound is changed orders = Same (changed ∙ sym (ap look_in is))
claims_found n now old new (Some d) low sound is changed orders =
    let id : d.id ≡ n - 1 + 1 = sound.ids (n - 1) (look d) (ap look_in is) in
    claims_by n now old new d (may_claim old now) (claim_due d old.settings now) (omega (arith, id, low)) is changed orders

claims_trace : (n now : ℕ) (old new : Driver) → 1 ≤ n → Sound n old → Claims now n old new → Trace n now (seen n old) old.orders new
claims_trace n now old new low sound c =
    claims_found n now old new (slice_get old.monitors (n - 1)) low sound refl
    (ap (λ (monitors : List NodeMonitor). look_at monitors (n - 1)) c.monitors ∙ changed_own (claim_change old now (may_claim old now)) old.monitors n)
    c.orders

serves_trace : (n now : ℕ) (serves : Bool) (old new : Driver) → 1 ≤ n → Sound n old → ServesIf serves now n old new → Trace n now (seen n old) old.orders new
serves_trace n now false old new low sound same = Same (ap (λ (driver : Driver). seen n driver) same)
serves_trace n now true old new low sound s =
    let first = writes_keep n MOST_AT_ONCE now n old s.written sound s.writes in
    let claims = claims_trace n now s.written s.claimed low first.sound s.claims in
    let connects = connects_keep n now n s.claimed s.connected (claims_sound n now n s.written s.claimed first.sound s.claims) s.connects in
    let last = keeps_both n s.claimed s.connected new connects (drop_keeps n (drop_end s.connected n) s.connected new connects.sound s.ends) in
    keeps_trace n now old s.written new first (trace_keeps n now (seen n s.written) s.written.orders s.claimed new claims last)

pub turn_trace : (n now : ℕ) (old new : Driver) → 1 ≤ n → Turn n now old new → Trace n now (seen n old) old.orders new
turn_trace n now old new low t =
    keeps_trace n now old t.here new t.keeps
    (trace_keeps n now (seen n t.here) t.here.orders t.behind new (serves_trace n now (is_that t.leader n) t.here t.behind low t.keeps.sound t.serves) t.last)

-- A report of the node: what is known of its last claim may be settled.
pub record HearMark (n now : ℕ) (status : Status) (progress : Progress) (old new : Driver) : Type 0 where
  pub own : NodeMonitor
  pub is : slice_get old.monitors (n - 1) ≡ Some own
  pub own_id : own.id ≡ n
  pub heard : Ordered
  pub first : More old.orders heard
  pub mid : Ordered
  pub more : More old.orders mid
  pub done : ℕ
  pub least : min progress.done (told_to heard own.id) ≤ done
  pub trace : Trace n now (Some (record { id = own.id; claimed = settled own.claimed status done; status = Some status })) mid new

at_least : (known heard : ℕ) → heard ≤ max known heard
at_least known heard = omega (arith)

pub hear_mark : (n now : ℕ) (at : Moment) (status : Status) (effects : List GateEffect) (progress : Progress) (refused : Bool) (d : NodeMonitor) (old new : Driver) → 1 ≤ n → Sound n old → slice_get old.monitors (n - 1) ≡ Some d → Hears now at n status effects progress refused old new → HearMark n now status progress old new
hear_mark n now at status effects progress refused d old new low sound is h =
    let up = awake now old in
    let id : d.id ≡ n - 1 + 1 = sound.ids (n - 1) (look d) (ap look_in is) in
    let id_is : d.id ≡ n = omega (arith, id, low) in
    let first = awake_keeps n now old sound in
    let (grows, same) = passes_grow (NoClaim n) now at n effects up h.passed sound.good h.passes in
    let passed = grows_keep n up h.passed first.sound same grows in
    let passed_more = kept_more n up h.passed passed in
    let change : NodeMonitor → NodeMonitor = λ m. heard_behind m now (told_to h.passed.orders m.id) status progress in
    let own = woken old now d in
    let count = told_to h.passed.orders d.id in
    let here : slice_get h.passed.monitors (n - 1) ≡ Some own =
    ap (λ (monitors : List NodeMonitor). slice_get monitors (n - 1)) same ∙ woken_is n now d old is
    in
    let there : slice_get h.stood.monitors (n - 1) ≡ Some (change own) =
    ap (λ (monitors : List NodeMonitor). slice_get monitors (n - 1)) h.stands.monitors ∙ changed_here n change h.passed.monitors own here
    in
    let done = (progressed d.progress count progress).done in
    let looks : seen n h.stood ≡ Some (record { id = d.id; claimed = settled d.claimed status done; status = Some status }) =
    ap look_in there ∙ ap Some (heard_look own now count status progress)
    in
    let stood = stood_sound n now n status progress refused h.passed h.stood passed.sound h.stands in
    let added = stood_adds n now n status progress refused h.passed h.stood h.stands in
    let worded =
    grows_keep n h.stood h.worded stood (ap monitors_of h.is_worded)
    (words_by n status.down refused (heard_at h.passed n status progress).has_lost now at n h.stood (told_of h.stood) (told_of h.worded) stood.good h.words)
    in
    let begun = begins_keep n (heard_at h.passed n status progress).is_new now at n status.boot h.worded h.begun worded.sound h.begins in
    let trace = turn_trace n now h.begun new low (node_turn n now h.begun new low begun.sound h.ticks) in
    let whole = keeps_trace n now h.stood h.begun new (keeps_both n h.stood h.worded h.begun worded begun) trace in
    record {
      own = d;
      is = is;
      own_id = id_is;
      heard = h.passed.orders;
      first = passed_more;
      mid = h.stood.orders;
      more = more_both old.orders h.passed.orders h.stood.orders passed_more (record { told = added.told; orders = added.orders });
      done = done;
      least = at_least d.progress.done (min progress.done count);
      trace = subst (λ (was : Option Look). Trace n now was h.stood.orders new) looks whole;
    }
