-- What is known of the last claim of a node, call by call.
use Rattle.std.proofs.Common.{◌≡◌, ◌∙◌, ℕ, ◌-◌, ◌≤◌, Bool, true, false, List, [], ◌∷◌, Option, Some, None, refl, sym, ap, subst, slice_get, slice_index, arith}
use Rattle.std.specs.Prelude.{◌&&◌, nat_eq, nat_le}
use Rattle.std.proofs.lemmas.Bool.{leb-true}
use Rattle.wire_bytes.specs.declared.moment.Moment.{Moment}
use Rattle.client_gate.specs.Gates.{GateEffect}
use Rattle.node_notes.specs.declared.note.Note.TheVariants as note
use Rattle.node_notes.specs.declared.progress.Progress.{Progress}
use Rattle.node_notes.specs.declared.status.Status.{Status}
use Rattle.driver.specs.declared.driver.Driver.{Driver}
use Rattle.driver.specs.declared.node_monitor.NodeMonitor.{NodeMonitor}
use Rattle.driver.specs.declared.node_monitor.standing.Claimed.{Claimed}
use Rattle.driver.specs.declared.order.Order.{Order}
use Rattle.driver.specs.declared.order.Order.TheVariants.{Submit}
use Rattle.driver.specs.declared.settings.Settings.{Settings}
use Rattle.driver.specs.declared.timer.Timer.{Timer}
use Rattle.driver.specs.Arriving.{IsNewDriver}
use Rattle.driver.specs.Calls.{Call, Does, DoesAll, IsTold, Step}
use Rattle.driver.specs.Calls.{Connect, Connected, Dismiss, End, Hand, Hear, Lose, Notice, Receive, ReceiveLine, Refuse, Take, Tick, Watch, WatchNodes, WatchPasswords}
use Rattle.driver.specs.Hearing.{heard_behind, settled}
use Rattle.driver.specs.Links.{node_of}
use Rattle.driver.specs.Reports.{Hears, heard_at}
use Rattle.driver.specs.Driving.{told_of}
use Rattle.driver.specs.Schedule.{GoesOn, IsRunning, ran_by, settles}
use Rattle.driver.specs.Telling.{Ordered, next_note, ordered, told_to}
use Rattle.driver.specs.Waking.{awake}
use Rattle.driver.proofs.Adding.{passes_grow}
use Rattle.driver.proofs.Calling.{takes_keep, watch_keeps}
use Rattle.driver.proofs.ClientCalls.{connect_keeps}
use Rattle.driver.proofs.Claiming.{apart_eq, node_apart}
use Rattle.driver.proofs.Counting.{in_all}
use Rattle.driver.proofs.Growing.{by_number}
use Rattle.driver.proofs.Keeping.{Sound}
use Rattle.driver.proofs.Marked.{Anew, HearMark, Same, Trace, hear_mark, seen, turn_trace}
use Rattle.driver.proofs.Monitors.{Look, changed_other, look_at, look_in}
use Rattle.driver.proofs.Moves.{monitors_of}
use Rattle.driver.proofs.Noted.{Counted, CountsOn, Noted, both_below, call_counts, call_noted, more_counts, new_noted, next_told, told_is}
use Rattle.driver.proofs.Quiet.{NoClaim}
use Rattle.driver.proofs.Reporting.{awake_keeps, begins_keep, grows_keep, stood_sound, words_by}
use Rattle.driver.proofs.Served.{tick_turn}
use Rattle.driver.proofs.Timely.{call_ran, new_at}
use Rattle.driver.proofs.Watching.{nodes_keep}

-- What a call does to what is known of the last claim of a node.
pub data Mark (n : ℕ) (call : Call) (old new : Driver) : Type 0 where
  Kept : ((note : ℕ) → settles n note call ≡ false) → seen n new ≡ seen n old → Mark n call old new
  Ticked :
      (now : ℕ) → ((ran : ℕ) → ran_by ran call ≡ now)
      → ((told : List Order) → IsTold call told old.orders new.orders → new.orders ≡ ordered old.orders told)
      → ((note : ℕ) → settles n note call ≡ false) → Trace n now (seen n old) old.orders new → Mark n call old new
  Heard :
      (now : ℕ) (status : Status) (progress : Progress) → ((ran : ℕ) → ran_by ran call ≡ now)
      → ((told : List Order) → IsTold call told old.orders new.orders → new.orders ≡ ordered old.orders told)
      → ((note : ℕ) → settles n note call ≡ true → (note ≤ progress.done) × (nat_eq status.applied status.last ≡ true))
      → HearMark n now status progress old new → Mark n call old new

other_seen : (n now : ℕ) (moment : Moment) (node : ℕ) (status : Status) (effects : List GateEffect) (progress : Progress) (refused : Bool) (old new : Driver) → 1 ≤ n → 1 ≤ node → (node ≡ n → ⊥) → Sound n old → Hears now moment node status effects progress refused old new → seen n new ≡ seen n old
other_seen n now moment node status effects progress refused old new low low_node apart sound h =
    let up = awake now old in
    let first = awake_keeps n now old sound in
    let (grows, same) = passes_grow (NoClaim n) now moment node effects up h.passed sound.good h.passes in
    let passed = grows_keep n up h.passed first.sound same grows in
    let change : NodeMonitor → NodeMonitor = λ m. heard_behind m now (told_to h.passed.orders m.id) status progress in
    let stood = stood_sound n now node status progress refused h.passed h.stood passed.sound h.stands in
    let here : seen n h.stood ≡ seen n h.passed =
    ap (λ (monitors : List NodeMonitor). look_at monitors (n - 1)) h.stands.monitors
    ∙ changed_other change h.passed.monitors node (n - 1) (λ e. apart (omega (arith, e, low, low_node)))
    in
    let worded =
    grows_keep n h.stood h.worded stood (ap monitors_of h.is_worded)
    (words_by n status.down refused (heard_at h.passed node status progress).has_lost now moment node h.stood (told_of h.stood) (told_of h.worded) stood.good h.words)
    in
    let begun = begins_keep n (heard_at h.passed node status progress).is_new now moment node status.boot h.worded h.begun worded.sound h.begins in
    let ticked = node_apart n now node h.begun new low low_node apart begun.sound h.ticks in
    ticked.same ∙ begun.same ∙ worded.same ∙ here ∙ passed.same ∙ first.same

and_false : (a b c : Bool) → a ≡ false → (a && b && c) ≡ false
and_false true b c is = absurd (cc is)
and_false false b c is = refl

-- what is settled by a report
settles_three : (own done applied : Bool) → (own && done && applied) ≡ true → (done ≡ true) × (applied ≡ true)
settles_three false done applied is = absurd (cc is)
settles_three true false applied is = absurd (cc is)
settles_three true true applied is = (refl, is)

settles_by : (own : Bool) (note : ℕ) (status : Status) (progress : Progress) → (own && nat_le note progress.done && nat_eq status.applied status.last) ≡ true → (nat_le note progress.done ≡ true) × (nat_eq status.applied status.last ≡ true)
settles_by own note status progress is = settles_three own (nat_le note progress.done) (nat_eq status.applied status.last) is

pub mark : (n : ℕ) (call : Call) (d : NodeMonitor) (old new : Driver) → 1 ≤ n → n ≤ 7 → Sound n old → slice_get old.monitors (n - 1) ≡ Some d → Does call old new → Mark n call old new
mark n (Connect now node) d old new low high sound is (low_node, c) = Kept (λ note. refl) (connect_keeps n now node old new sound c).same
mark n (Receive bytes now moment number) d old new low high sound is s = Kept (λ note. refl) (ap (λ (driver : Driver). seen n driver) s.rest)
mark n (Lose now moment number) d old new low high sound is s = Kept (λ note. refl) (ap (λ (driver : Driver). seen n driver) s.rest)
mark n (Hand node line) d old new low high sound is h = Kept (λ note. refl) (ap (λ (driver : Driver). seen n driver) h)
mark n (Hear now moment node status effects progress refused) d old new low high sound is r =
    by_number node n (Mark n (Hear now moment node status effects progress refused) old new)
    (λ same.
    Heard now status progress (λ ran. refl) (λ told is. is)
    (λ note so. let (done, applied) = settles_by (nat_eq node n) note status progress so in (leb-true note progress.done done, applied))
    (hear_mark n now moment status effects progress refused d old new low sound is
    (subst (λ (k : ℕ). Hears now moment k status effects progress refused old new) same r.hears)))
    (λ apart.
    Kept (λ note. and_false (nat_eq node n) (nat_le note progress.done) (nat_eq status.applied status.last) (apart_eq node n apart))
    (other_seen n now moment node status effects progress refused old new low r.low apart sound r.hears))
mark n (Tick now moment) d old new low high sound is t = Ticked now (λ ran. refl) (λ told is. is) (λ note. refl) (turn_trace n now old new low (tick_turn n now moment old new low high sound t))
mark n (Connected now) d old new low high sound is s = Kept (λ note. refl) (ap (λ (driver : Driver). seen n driver) s.rest)
mark n (ReceiveLine now moment bytes) d old new low high sound is t = Kept (λ note. refl) (takes_keep n (node_of old.link.stage) now moment bytes old new sound t).same
mark n (End now why) d old new low high sound is e = Kept (λ note. refl) (ap (λ (driver : Driver). seen n driver) e.rest)
mark n (Notice text) d old new low high sound is o = Kept (λ note. refl) (ap (λ (driver : Driver). seen n driver) o.rest)
mark n (Dismiss now moment) d old new low high sound is s = Kept (λ note. refl) (ap (λ (driver : Driver). seen n driver) s.rest)
mark n Watch d old new low high sound is w = Kept (λ note. refl) (watch_keeps n w.leader old new sound w.watches).same
mark n (WatchNodes now) d old new low high sound is w = Kept (λ note. refl) (nodes_keep n now old new sound w).same
mark n (WatchPasswords now) d old new low high sound is w = Kept (λ note. refl) (ap (λ (driver : Driver). seen n driver) w.rest)
mark n (Refuse number) d old new low high sound is o = Kept (λ note. refl) (ap (λ (driver : Driver). seen n driver) o.rest)
mark n Take d old new low high sound is o = Kept (λ note. refl) (ap (λ (driver : Driver). seen n driver) o.rest)

-- What is known of the last claim.

abbrev pub claim_in : Option Look → Option Claimed
claim_in None = None
claim_in (Some x) = x.claimed

-- the last claim, if there is one, was in such a note at the latest, by then, and is settled if this is so
abbrev pub Stale : ℕ → ℕ → Bool → Option Claimed → Type 0
Stale note ran done None = Unit {0}
Stale note ran done (Some claim) = (claim.note ≤ note) × (claim.at.since ≤ ran) × (done ≡ true → claim.is_settled ≡ true)

-- how many notes the node was sent
abbrev pub all_of : ℕ → Driver → ℕ
all_of n driver = slice_index (in_all driver.orders) (n - 1)

stale_later : (note ran later after : ℕ) (done : Bool) (claim : Option Claimed) → note ≤ later → ran ≤ after → Stale note ran done claim → Stale later after done claim
stale_later note ran later after done None first last s = tt
stale_later note ran later after done (Some claim) first last (number, since, is) =
    (both_below claim.note note later number first, both_below claim.at.since ran after since last, is)

-- nothing is said about whether it is settled
stale_settled : (note ran done : ℕ) (status : Status) (claim : Option Claimed) → Stale note ran false claim → Stale note ran false (settled claim status done)
stale_settled note ran done status None s = tt
stale_settled note ran done status (Some claim) (number, since, is) = (number, since, λ e. absurd (cc e))

pub same_now : (now : ℕ) → now ≤ now
same_now now = omega (arith)

trace_fits : (n now most : ℕ) (was : Option Look) (before : Ordered) (new : Driver) → Trace n now was before new → Counted n (in_all before) → most ≤ all_of n new → new.ran.since ≡ now → Stale most now false (claim_in was) → Stale (all_of n new) new.ran.since false (claim_in (seen n new))
trace_fits n now most was before new (Same is) counted more ran s =
    subst (λ (k : ℕ). Stale (all_of n new) k false (claim_in (seen n new))) (sym ran)
    (subst (λ (x : Option Look). Stale (all_of n new) now false (claim_in x)) (sym is)
    (stale_later most now (all_of n new) now false (claim_in was) more (same_now now) s))
trace_fits n now most was before new (Anew x claim orders is since number first last) counted more ran s =
    let on = more_counts n before orders first counted in
    let told_on = ordered orders (Submit n note.Claim ∷ []) in
    let mid = more_counts n orders told_on (record { told = Submit n note.Claim ∷ []; orders = refl }) on.counted in
    let end = more_counts n told_on new.orders last mid.counted in
    let here : next_note orders n ≤ slice_index (in_all told_on) (n - 1) = subst (λ (k : ℕ). next_note orders n ≤ k) (told_is n told_on) (next_told n orders note.Claim on.counted) in
    let own : claim.note ≤ all_of n new = subst (λ (k : ℕ). k ≤ all_of n new) (sym number) (both_below (next_note orders n) (slice_index (in_all told_on) (n - 1)) (all_of n new) here end.more) in
    let at_now : claim.at.since ≤ new.ran.since = subst (λ (k : ℕ). k ≤ new.ran.since) (sym since) (subst (λ (k : ℕ). now ≤ k) (sym ran) (same_now now)) in
    subst (λ (x : Option Look). Stale (all_of n new) new.ran.since false (claim_in x)) (sym is) (own, at_now, λ e. absurd (cc e))

-- What holds for a node: its notes are counted, and its last claim is one of them.
pub record Marked (n : ℕ) (driver : Driver) : Type 0 where
  pub noted : Noted n driver
  pub claim : Stale (all_of n driver) driver.ran.since false (claim_in (seen n driver))

mark_fits : (n : ℕ) (call : Call) (old new : Driver) → Marked n old → CountsOn n (in_all old.orders) (in_all new.orders) → old.ran.since ≤ new.ran.since → new.ran.since ≡ ran_by old.ran.since call → Mark n call old new → Stale (all_of n new) new.ran.since false (claim_in (seen n new))
mark_fits n call old new m on goes ran_is (Kept none same) =
    subst (λ (x : Option Look). Stale (all_of n new) new.ran.since false (claim_in x)) (sym same)
    (stale_later (all_of n old) old.ran.since (all_of n new) new.ran.since false (claim_in (seen n old)) on.more goes m.claim)
mark_fits n call old new m on goes ran_is (Ticked now ran given none t) =
    let now_is = ran_is ∙ ran old.ran.since in
    trace_fits n now (all_of n old) (seen n old) old.orders new t m.noted.counted on.more now_is
    (stale_later (all_of n old) old.ran.since (all_of n old) now false (claim_in (seen n old)) (same_now (all_of n old)) (subst (λ (k : ℕ). old.ran.since ≤ k) now_is goes) m.claim)
mark_fits n call old new m on goes ran_is (Heard now status progress ran given says h) =
    let now_is = ran_is ∙ ran old.ran.since in
    let here = subst (λ (x : Option Look). Stale (all_of n old) old.ran.since false (claim_in x)) (ap look_in h.is) m.claim in
    let more = more_counts n old.orders h.mid h.more m.noted.counted in
    trace_fits n now (all_of n old) (Some (record { id = h.own.id; claimed = settled h.own.claimed status h.done; status = Some status })) h.mid new h.trace more.counted on.more now_is
    (stale_settled (all_of n old) now h.done status h.own.claimed
    (stale_later (all_of n old) old.ran.since (all_of n old) now false h.own.claimed (same_now (all_of n old)) (subst (λ (k : ℕ). old.ran.since ≤ k) now_is goes) here))

call_marked : (n : ℕ) (call : Call) (told : List Order) (old new : Driver) → 1 ≤ n → n ≤ 7 → Marked n old → old.ran.since ≤ ran_by old.ran.since call → Does call old new → IsTold call told old.orders new.orders → Marked n new
call_marked n call told old new low high m goes does is =
    let i = m.noted.in_time in
    let ran = call_ran n call old new low high i does in
    record {
      noted = call_noted n call told old new low high m.noted goes does is;
      claim =
          mark_fits n call old new m (call_counts n call told old new m.noted.counted does is) (subst (λ (k : ℕ). old.ran.since ≤ k) (sym ran) goes) ran
          (mark n call i.own old new low high i.sound i.is does);
    }

steps_marked : (n : ℕ) (steps : List Step) (old new : Driver) → 1 ≤ n → n ≤ 7 → Marked n old → GoesOn old.ran.since steps → DoesAll steps old new → Marked n new
unfolding DoesAll GoesOn
steps_marked n [] old new low high m goes same = subst (λ (driver : Driver). Marked n driver) (sym same) m
steps_marked n (step ∷ more) old new low high m (first, rest) (behind, does, later) =
    let next = call_marked n step.call step.told old behind low high m first does.does does.told in
    let ran = call_ran n step.call old behind low high m.noted.in_time does.does in
    steps_marked n more behind new low high next (subst (λ (k : ℕ). GoesOn k more) (sym ran) rest) later

new_marked : (n : ℕ) (settings : Settings) (now : ℕ) (driver : Driver) → 1 ≤ n → n ≤ 7 → IsNewDriver settings now driver → Marked n driver
new_marked n settings now driver low high new = record {
  noted = new_noted n settings now driver low high new;
  claim =
      subst (λ (x : Option Look). Stale (all_of n driver) driver.ran.since false (claim_in x))
      (sym (ap look_in (ap (λ (monitors : List NodeMonitor). slice_get monitors (n - 1)) new.monitors ∙ new_at n settings now low high))) tt;
}

pub running_marked : (n : ℕ) (driver : Driver) → 1 ≤ n → n ≤ 7 → IsRunning driver → Marked n driver
running_marked n driver low high r =
    let new = r.led.is_new in
    let first = new_marked n r.led.settings r.led.now r.led.first low high new in
    let start : r.led.first.ran.since ≡ r.led.now = ap (λ (timer : Timer). timer.since) new.ran in
    steps_marked n r.steps r.led.first driver low high first (subst (λ (k : ℕ). GoesOn k r.steps) (sym start) r.goes_on) r.led.calls
