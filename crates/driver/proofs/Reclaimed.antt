-- A claim is repeated in time, and a line that was not claimed is claimed.
use Rattle.std.proofs.Common.{◌≡◌, ◌∙◌, ℕ, ◌+◌, ◌-◌, ◌≤◌, Bool, true, false, List, [], ◌∷◌, Option, Some, None, refl, sym, ap, subst, slice_index, arith}
use Rattle.std.specs.Prelude.{◌&&◌, ◌||◌, min, nat_eq, nat_le, not}
use Rattle.std.specs.List.{list_any}
use Rattle.std.proofs.lemmas.Bool.{le-leb}
use Rattle.std.proofs.lemmas.List.Folds.{list_any-append}
use Rattle.machine_laws.specs.Sessions.{same_session}
use Rattle.node_notes.specs.declared.note.Note.TheVariants as note
use Rattle.node_notes.specs.declared.status.Status.{Status}
use Rattle.driver.specs.declared.driver.Driver.{Driver}
use Rattle.driver.specs.declared.node_monitor.NodeMonitor.{NodeMonitor}
use Rattle.driver.specs.declared.node_monitor.standing.Claimed.{Claimed}
use Rattle.driver.specs.declared.order.Order.{Order}
use Rattle.driver.specs.declared.order.Order.TheVariants.{Submit}
use Rattle.driver.specs.declared.settings.Settings.{Settings}
use Rattle.driver.specs.Calls.{Call, DoesAll, IsTold, Step}
use Rattle.driver.specs.Claiming.{claims}
use Rattle.driver.specs.Counting.{all_told}
use Rattle.driver.specs.Hearing.{settled}
use Rattle.driver.specs.Links.{status_in}
use Rattle.driver.specs.Monitors.{is_claimed, is_over, line_to_claim}
use Rattle.driver.specs.Schedule.{ClaimsInTime, GoesOn, NewClaimsInTime, is_claim_of, is_claimed_last, one_orders, settles}
use Rattle.driver.specs.Telling.{Ordered, ordered, told_to}
use Rattle.driver.proofs.Claimed.{among, turn_claims}
use Rattle.driver.proofs.Claiming.{same_eq}
use Rattle.driver.proofs.Clocks.{More, more_both, more_none}
use Rattle.driver.proofs.Counting.{in_all}
use Rattle.driver.proofs.Keeping.{Line}
use Rattle.driver.proofs.Marked.{Anew, Same, Trace, seen}
use Rattle.driver.proofs.Monitors.{Look, look_in}
use Rattle.driver.proofs.Noted.{Counted, both_below, call_counts, more_counts, told_is}
use Rattle.driver.proofs.Served.{tick_turn}
use Rattle.driver.proofs.Timely.{InTime, call_in_time, call_ran, running, steps_settings}
use Rattle.driver.proofs.Marking.{Heard, Kept, Mark, Ticked, Stale, all_of, claim_in, mark, running_marked, same_now}

-- A line that was not claimed.

not_of : (a b c : Bool) → (a && b) ≡ false → (a && b && c) ≡ false
not_of true true c is = absurd (cc is)
not_of true false c is = refl
not_of false b c is = refl

not_claimed : (claimed : Option Claimed) (wait now : ℕ) (line : Line) → is_claim_of line claimed ≡ false → is_claimed claimed wait now line.0 line.1 ≡ false
not_claimed None wait now line is = refl
not_claimed (Some claim) wait now line is =
    not_of (same_session claim.session line.0) (nat_eq claim.number line.1) (not (claim.is_settled && is_over claim.at wait now)) is

pub new_claims_in_time : NewClaimsInTime
new_claims_in_time node now moment line told next new r not_last does (term, leads) is_line free =
    let i = running node next leads.low leads.high r in
    let turn = tick_turn node now moment next new leads.low leads.high i.sound does.does in
    let here : line_to_claim i.own.status ≡ Some line = ap line_to_claim (ap status_in (sym i.is)) ∙ is_line in
    let other : is_claim_of line i.own.claimed ≡ false = ap (λ (found : Option NodeMonitor). is_claimed_last found line) (sym i.is) ∙ not_last in
    turn_claims node now line next new i.own told leads.low turn (term, leads) i.is here (not_claimed i.own.claimed next.settings.timeout_ms now line other) free does.told

-- A claim that is not in the log.

stale_is : (limit ran : ℕ) (done : Bool) (a b : Option Look) → b ≡ a → Stale limit ran done (claim_in a) → Stale limit ran done (claim_in b)
stale_is limit ran done a b same s = subst (λ (x : Option Look). Stale limit ran done (claim_in x)) (sym same) s

-- if none is asked for, it stays
trace_stale : (n now limit ran : ℕ) (done : Bool) (was : Option Look) (old new : Driver) (mid : Ordered) (given : List Order) → More old.orders mid → Trace n now was mid new → new.orders ≡ ordered old.orders given → list_any (claims n) given ≡ false → Stale limit ran done (claim_in was) → Stale limit ran done (claim_in (seen n new))
trace_stale n now limit ran done was old new mid given more (Same is) orders none s = stale_is limit ran done was (seen n new) is s
trace_stale n now limit ran done was old new mid given more (Anew x claim at is since number first last) orders none s =
    let told =
    among (claims n) old.orders at (ordered at (Submit n note.Claim ∷ [])) new.orders (Submit n note.Claim) given
    (more_both old.orders mid at more first) refl last orders (same_eq n)
    in
    absurd (cc (told, none))

or_none : (done more : Bool) → more ≡ false → (done || more) ≡ done
or_none true more is = refl
or_none false more is = is

both_least : (claim limit done told heard : ℕ) → claim ≤ limit → limit ≤ heard → limit ≤ told → min heard told ≤ done → claim ≤ done
both_least claim limit done told heard a b c d = omega (arith, a, b, c, d)

or_so : (a b : Bool) → b ≡ true → (a || b) ≡ true
or_so true b is = refl
or_so false b is = is

and_so : (a b : Bool) → a ≡ true → b ≡ true → (a && b) ≡ true
and_so true b is so = so
and_so false b is so = is

-- it is settled by a report that says so
settled_by : (more done : Bool) (claim : Claimed) (level : ℕ) (status : Status) → (more ≡ true → claim.note ≤ level) → (more ≡ true → nat_eq status.applied status.last ≡ true) → (done ≡ true → claim.is_settled ≡ true) → (done || more) ≡ true → (claim.is_settled || (nat_le claim.note level && nat_eq status.applied status.last)) ≡ true
settled_by more true claim level status reached applied was is =
    ap (λ (b : Bool). b || (nat_le claim.note level && nat_eq status.applied status.last)) (was refl)
settled_by more false claim level status reached applied was is =
    or_so claim.is_settled (nat_le claim.note level && nat_eq status.applied status.last)
    (and_so (nat_le claim.note level) (nat_eq status.applied status.last) (le-leb claim.note level (reached is)) (applied is))

settled_stale : (limit ran level : ℕ) (done more : Bool) (status : Status) (claim : Option Claimed) → (more ≡ true → limit ≤ level) → (more ≡ true → nat_eq status.applied status.last ≡ true) → Stale limit ran done claim → Stale limit ran (done || more) (settled claim status level)
settled_stale limit ran level done more status None reached applied s = tt
settled_stale limit ran level done more status (Some claim) reached applied (number, since, was) = (
  number,
  since,
  λ is. settled_by more done claim level status (λ so. both_below claim.note limit level number (reached so)) applied was is,
)

-- What holds for a node that is asked for no claim.
pub record Waits (n limit ran : ℕ) (done : Bool) (driver : Driver) : Type 0 where
  pub in_time : InTime n driver
  pub counted : Counted n (in_all driver.orders)
  pub more : limit ≤ all_of n driver
  pub stale : Stale limit ran done (claim_in (seen n driver))

told_order : (n : ℕ) (call : Call) (told : List Order) (old new : Driver) (limit ran : ℕ) (done : Bool) → IsTold call told old.orders new.orders → Mark n call old new → list_any (claims n) told ≡ false → Counted n (in_all old.orders) → limit ≤ all_of n old → Stale limit ran done (claim_in (seen n old)) → Stale limit ran (done || settles n limit call) (claim_in (seen n new))
told_order n call told old new limit ran done is (Kept none same) quiet counted more s =
    subst (λ (b : Bool). Stale limit ran b (claim_in (seen n new))) (sym (or_none done (settles n limit call) (none limit)))
    (stale_is limit ran done (seen n old) (seen n new) same s)
told_order n call told old new limit ran done is (Ticked now at_now given none t) quiet counted more s =
    subst (λ (b : Bool). Stale limit ran b (claim_in (seen n new))) (sym (or_none done (settles n limit call) (none limit)))
    (trace_stale n now limit ran done (seen n old) old new old.orders told (more_none old.orders) t (given told is) quiet s)
told_order n call told old new limit ran done is (Heard now status progress at_now given says h) quiet counted more s =
    let here = subst (λ (x : Option Look). Stale limit ran done (claim_in x)) (ap look_in h.is) s in
    let heard = more_counts n old.orders h.heard h.first counted in
    let own : told_to h.heard h.own.id ≡ slice_index (in_all h.heard) (n - 1) = ap (λ (k : ℕ). told_to h.heard k) h.own_id ∙ told_is n h.heard in
    let told_all : limit ≤ told_to h.heard h.own.id = subst (λ (k : ℕ). limit ≤ k) (sym own) (both_below limit (all_of n old) (slice_index (in_all h.heard) (n - 1)) more heard.more) in
    trace_stale n now limit ran (done || settles n limit call) (Some (record { id = h.own.id; claimed = settled h.own.claimed status h.done; status = Some status })) old new h.mid told h.more h.trace (given told is) quiet
    (settled_stale limit ran h.done done (settles n limit call) status h.own.claimed
    (λ so. both_least limit limit h.done (told_to h.heard h.own.id) progress.done (same_now limit) (says limit so).0 told_all h.least)
    (λ so. (says limit so).1) here)

first_none : (a b : Bool) → (a || b) ≡ false → a ≡ false
first_none true b is = is
first_none false b is = refl

last_none : (a b : Bool) → (a || b) ≡ false → b ≡ false
last_none true b is = absurd (cc is)
last_none false b is = is

or_assoc : (a b c : Bool) → (a || (b || c)) ≡ ((a || b) || c)
or_assoc true b c = refl
or_assoc false b c = refl

abbrev pub settles_some : ℕ → ℕ → List Step → Bool
settles_some n limit steps = list_any (λ (step : Step). settles n limit step.call) steps

waits_on : (n limit ran : ℕ) (done : Bool) (steps : List Step) (old new : Driver) → 1 ≤ n → n ≤ 7 → Waits n limit ran done old → GoesOn old.ran.since steps → one_orders (claims n) steps ≡ false → DoesAll steps old new → Waits n limit ran (done || settles_some n limit steps) new
unfolding DoesAll GoesOn all_told
waits_on n limit ran done [] old new low high w goes none same =
    subst (λ (b : Bool). Waits n limit ran b new) (sym (or_none done false refl)) (subst (λ (driver : Driver). Waits n limit ran done driver) (sym same) w)
waits_on n limit ran done (step ∷ more) old new low high w (first, rest) none (behind, does, later) =
    let split = sym (list_any-append (claims n) step.told (all_told more)) ∙ none in
    let quiet = first_none (list_any (claims n) step.told) (list_any (claims n) (all_told more)) split in
    let others = last_none (list_any (claims n) step.told) (list_any (claims n) (all_told more)) split in
    let i = w.in_time in
    let ran_is = call_ran n step.call old behind low high i does.does in
    let on = call_counts n step.call step.told old behind w.counted does.does does.told in
    let m = mark n step.call i.own old behind low high i.sound i.is does.does in
    let next : Waits n limit ran (done || settles n limit step.call) behind = record {
      in_time = call_in_time n step.call step.told old behind low high i first does.does does.told;
      counted = on.counted;
      more = both_below limit (all_of n old) (all_of n behind) w.more on.more;
      stale = told_order n step.call step.told old behind limit ran done does.told m quiet w.counted w.more w.stale;
    } in
    subst (λ (b : Bool). Waits n limit ran b new) (sym (or_assoc done (settles n limit step.call) (settles_some n limit more)))
    (waits_on n limit ran (done || settles n limit step.call) more behind new low high next (subst (λ (k : ℕ). GoesOn k more) (sym ran_is) rest) others later)

-- a claim that is settled, and long ago, holds none back
over_by : (wait since ran now : ℕ) → since ≤ ran → ran + wait ≤ now → wait ≤ now - since
over_by wait since ran now before late = omega (arith, before, late)

both_not : (a b c d : Bool) → c ≡ true → d ≡ true → (a && b && not (c && d)) ≡ false
both_not true true true true is so = refl
both_not true true true false is so = absurd (cc so)
both_not true true false d is so = absurd (cc is)
both_not true false c d is so = refl
both_not false b c d is so = refl

stale_free : (claimed : Option Claimed) (limit ran wait now : ℕ) (line : Line) → ran + wait ≤ now → Stale limit ran true claimed → is_claimed claimed wait now line.0 line.1 ≡ false
stale_free None limit ran wait now line late s = refl
stale_free (Some claim) limit ran wait now line late (number, since, is) =
    both_not (same_session claim.session line.0) (nat_eq claim.number line.1) claim.is_settled (is_over claim.at wait now) (is refl)
    (le-leb wait (now - claim.at.since) (over_by wait claim.at.since ran now since late))

pub claims_in_time : ClaimsInTime
claims_in_time node now moment line steps told old next new r none said late does leads is_line free =
    let m = running_marked node old r.low r.high r.is_running in
    let first : Waits node (told_to old.orders node) old.ran.since false old = record {
      in_time = m.noted.in_time;
      counted = m.noted.counted;
      more = subst (λ (k : ℕ). k ≤ all_of node old) (sym (told_is node old.orders)) (same_now (all_of node old));
      stale = subst (λ (k : ℕ). Stale k old.ran.since false (claim_in (seen node old))) (sym (told_is node old.orders)) m.claim;
    } in
    let w : Waits node (told_to old.orders node) old.ran.since true next =
    subst (λ (b : Bool). Waits node (told_to old.orders node) old.ran.since b next) said
    (waits_on node (told_to old.orders node) old.ran.since false steps old next r.low r.high first r.goes_on none r.does)
    in
    let i = w.in_time in
    let turn = tick_turn node now moment next new r.low r.high i.sound does.does in
    let here : line_to_claim i.own.status ≡ Some line = ap line_to_claim (ap status_in (sym i.is)) ∙ is_line in
    let same : next.settings ≡ old.settings = steps_settings node steps old next r.low r.high m.noted.in_time r.goes_on r.does in
    let stale = subst (λ (x : Option Look). Stale (told_to old.orders node) old.ran.since true (claim_in x)) (ap look_in i.is) w.stale in
    let wait : old.ran.since + next.settings.timeout_ms ≤ now = subst (λ (s : Settings). old.ran.since + s.timeout_ms ≤ now) (sym same) late in
    let claim_free = stale_free i.own.claimed (told_to old.orders node) old.ran.since next.settings.timeout_ms now line wait stale in
    turn_claims node now line next new i.own told r.low turn leads i.is here claim_free free does.told
