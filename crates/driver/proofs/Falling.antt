-- A node's worker reports: the node is down after it, or up, and what was ordered fits.
use Rattle.std.proofs.Common.{◌≡◌, ◌∙◌, ℕ, ◌-◌, Bool, true, false, not, List, [], ◌∷◌, Option, Some, None, refl, sym, ap, subst, slice_get}
use Rattle.std.specs.Prelude.{◌&&◌, ◌||◌, if◌then◌else◌, is_some, nat_eq, map}
use Rattle.std.proofs.lemmas.Option.{slice_get-map}
use Rattle.wire_bytes.specs.declared.moment.Moment.{Moment}
use Rattle.client_gate.specs.Gates.{GateEffect}
use Rattle.node_notes.specs.declared.progress.Progress.{Progress}
use Rattle.node_notes.specs.declared.status.Status.{Status}
use Rattle.raft_node.specs.declared.node_fault.Cause.{Cause}
use Rattle.driver.specs.declared.node_monitor.standing.Outage.{Outage}
use Rattle.driver.specs.declared.clients.Clients.{Clients}
use Rattle.driver.specs.declared.node_monitor.NodeMonitor.{NodeMonitor}
use Rattle.driver.specs.declared.driver.Driver.{Driver}
use Rattle.driver.specs.declared.news.News.TheVariants as news
use Rattle.driver.specs.declared.order.Order.{Order}
use Rattle.driver.specs.declared.order.Order.TheVariants as order
use Rattle.driver.specs.Driving.{changed_at, orders_of}
use Rattle.driver.specs.Hearing.{answers_news, begins_run, down_behind, down_news, elected_news, heard_behind, heard_news, is_elected, is_none, stood_behind, stood_news, told_behind, up_behind, up_news, was_up}
use Rattle.driver.specs.Reports.{Hears, Stands}
use Rattle.driver.specs.Telling.{ordered, told_to}
use Rattle.driver.specs.Waking.{awake, slept, waited_longer}
use Rattle.driver.proofs.Adding.{nothing_adds, passes_grow}
use Rattle.driver.proofs.Monitors.{Ids, Look, ids_changed, ids_kept, mapped_same}
use Rattle.driver.proofs.Growing.{AllAre, AllGood, all_append}
use Rattle.driver.proofs.Reporting.{heard_look}
use Rattle.driver.proofs.Restarts.{follows_both, Follows, Plain, follows_all}
use Rattle.driver.proofs.Staying.{StandsAs, Stays, Steady, as_kept, grows_stay, is_down_so, stays_both}

-- The orders lead to the state of the node now.
pub record Turns (n : ℕ) (down : Bool) (old new : Driver) : Type 0 where
  pub last : Bool
  pub told : List Order
  pub orders : new.orders ≡ ordered old.orders told
  pub follows : Follows n down told last
  pub steady : Steady n last new

pub stays_turns : (n : ℕ) (down : Bool) (old new : Driver) → Stays n down old new → Turns n down old new
stays_turns n down old new s = record {
  last = down;
  told = s.adds.told;
  orders = s.adds.orders;
  follows = follows_all n down s.adds.told s.adds.all;
  steady = s.steady;
}

-- The driver is awake, and effects pass.

pub awake_stays : (n now : ℕ) (down : Bool) (old : Driver) → Steady n down old → Stays n down old (awake now old)
awake_stays n now down old steady =
    let change = waited_longer (slept old.ran old.settings.timeout_ms now) in
    record {
      adds = nothing_adds (Plain n down) old.orders old.orders refl;
      steady = record {
        good = steady.good;
        ids = ids_kept old.monitors (map change old.monitors) (λ j. mapped_same change (λ d. refl) old.monitors j) steady.ids;
        at =
            subst (λ (found : Option NodeMonitor). StandsAs down found) (sym (slice_get-map change old.monitors (n - 1)))
            (as_kept down change (slice_get old.monitors (n - 1)) (λ d. (refl, refl)) steady.at);
      };
    }

pub passed_stays : (n now : ℕ) (at : Moment) (node : ℕ) (status : Status) (effects : List GateEffect) (progress : Progress) (refused down : Bool) (old new : Driver) → Steady n down old → (h : Hears now at node status effects progress refused old new) → Stays n down old h.passed
passed_stays n now at node status effects progress refused down old new steady h =
    let woken = awake now old in
    let first = awake_stays n now down old steady in
    let (grows, same) = passes_grow (Plain n down) now at node effects woken h.passed steady.good h.passes in
    stays_both n down old woken h.passed first (grows_stay n down woken h.passed first.steady same grows)

-- The state of the node is reported.

pub elected_plain : (n : ℕ) (down b : Bool) (node term : ℕ) → AllAre (Plain n down) (if b then order.Log (news.Elected node term) ∷ [] else [])
unfolding AllAre
elected_plain n down true node term = ((tt, refl), tt)
elected_plain n down false node term = tt

-- of another node
said_up : (down own : Bool) → own ≡ false → (down && not own) ≡ down
said_up down true is = absurd (cc is)
said_up true false is = refl
said_up false false is = refl

said_down : (down own : Bool) → own ≡ false → (down || own) ≡ down
said_down down true is = absurd (cc is)
said_down true false is = refl
said_down false false is = refl

up_other : (n : ℕ) (down : Bool) (id boot : ℕ) (up : Bool) → nat_eq id n ≡ false → AllAre (Plain n down) (up_news id boot up)
unfolding AllAre
up_other n down id boot true apart = tt
up_other n down id boot false apart = ((tt, said_up down (nat_eq id n) apart), tt)

answers_plain : (n : ℕ) (down : Bool) (id : ℕ) (hung : Bool) → AllAre (Plain n down) (answers_news id hung)
unfolding AllAre
answers_plain n down id true = ((tt, refl), tt)
answers_plain n down id false = tt

down_other : (n : ℕ) (down : Bool) (id : ℕ) (cause : Cause) (since : Option Outage) → nat_eq id n ≡ false → AllAre (Plain n down) (down_news id cause since)
unfolding AllAre
down_other n down id cause None apart = ((tt, said_down down (nat_eq id n) apart), tt)
down_other n down id cause (Some since) apart = tt

stood_other : (n : ℕ) (down : Bool) (d : NodeMonitor) (status : Status) (cause : Option Cause) → nat_eq d.id n ≡ false → AllAre (Plain n down) (stood_news d status cause)
stood_other n down d status None apart =
    all_append (Plain n down) (answers_news d.id (d.presence.is_hanging && begins_run d.status status)) (up_news d.id status.boot (was_up d.status))
    (answers_plain n down d.id (d.presence.is_hanging && begins_run d.status status))
    (up_other n down d.id status.boot (was_up d.status) apart)
stood_other n down d status (Some cause) apart = down_other n down d.id cause d.down apart

-- the monitor of a report belongs to another node, if it belongs to one
abbrev pub IsOther : ℕ → Option NodeMonitor → Type 0
IsOther n None = Unit {0}
IsOther n (Some d) = nat_eq d.id n ≡ false

news_other : (n : ℕ) (down : Bool) (status : Status) (found : Option NodeMonitor) → IsOther n found → AllAre (Plain n down) (orders_of (λ d. heard_news d status) found)
unfolding AllAre
news_other n down status None other = tt
news_other n down status (Some d) other =
    all_append (Plain n down) (elected_news d status) (stood_news d status status.down)
    (elected_plain n down (is_elected d status) d.id status.term)
    (stood_other n down d status status.down other)

-- what the report changes in its monitor
abbrev pub stood_change : Driver → ℕ → Status → Progress → NodeMonitor → NodeMonitor
stood_change old now status progress = λ d. heard_behind d now (told_to old.orders d.id) status progress

pub stood_ids : (n now node : ℕ) (status : Status) (progress : Progress) (refused : Bool) (old new : Driver) → Ids old.monitors → Stands now node status progress refused old new → Ids new.monitors
stood_ids n now node status progress refused old new ids s =
    subst (λ (monitors : List NodeMonitor). Ids monitors) (sym s.monitors)
    (ids_changed (stood_change old now status progress) (λ d. ap (λ (x : Look). x.id) (heard_look d now (told_to old.orders d.id) status progress)) old.monitors node ids)

pub stood_good : (now node : ℕ) (status : Status) (progress : Progress) (refused : Bool) (P : Order → Type 0) (old new : Driver) → AllGood P old.clients → Stands now node status progress refused old new → AllGood P new.clients
stood_good now node status progress refused P old new good s =
    subst (λ (clients : Clients). AllGood P clients) (sym (ap (λ (driver : Driver). driver.clients) s.rest)) good

pub other_stands : (n now node : ℕ) (down : Bool) (status : Status) (progress : Progress) (refused : Bool) (old new : Driver) → Steady n down old → IsOther n (slice_get old.monitors (node - 1)) → slice_get (changed_at (stood_change old now status progress) old.monitors node) (n - 1) ≡ slice_get old.monitors (n - 1) → Stands now node status progress refused old new → Stays n down old new
other_stands n now node down status progress refused old new steady other same s = record {
  adds = record {
    told = orders_of (λ d. heard_news d status) (slice_get old.monitors (node - 1));
    orders = s.orders;
    all = news_other n down status (slice_get old.monitors (node - 1)) other;
  };
  steady = record {
    good = stood_good now node status progress refused (Plain n down) old new steady.good s;
    ids = stood_ids n now node status progress refused old new steady.ids s;
    at =
        subst (λ (monitors : List NodeMonitor). StandsAs down (slice_get monitors (n - 1))) (sym s.monitors)
        (subst (λ (found : Option NodeMonitor). StandsAs down found) (sym same) steady.at);
  };
}

-- of the node itself

none_so : (cause : Option Cause) → is_none cause ≡ true → is_some cause ≡ false
none_so None is = refl
none_so (Some cause) is = absurd (cc is)

was_up_so : (status : Option Status) → was_up status ≡ true → is_down_so status ≡ false
was_up_so None is = absurd (cc is)
was_up_so (Some before) is = none_so before.down is

ended : (down own : Bool) → own ≡ true → (down && not own) ≡ false
ended down false is = absurd (cc is)
ended true true is = refl
ended false true is = refl

up_own : (n : ℕ) (down : Bool) (id boot : ℕ) (up : Bool) → nat_eq id n ≡ true → (up ≡ true → down ≡ false) → Follows n down (up_news id boot up) false
unfolding Follows
up_own n down id boot true own so = so refl
up_own n down id boot false own so = (tt, ended down (nat_eq id n) own)

begun_down : (down own : Bool) → own ≡ true → (down || own) ≡ true
begun_down true own is = refl
begun_down false own is = is

down_own : (n : ℕ) (down : Bool) (id : ℕ) (cause : Cause) (since : Option Outage) → nat_eq id n ≡ true → is_some since ≡ down → Follows n down (down_news id cause since) true
unfolding Follows
down_own n down id cause None own is = (tt, begun_down down (nat_eq id n) own)
down_own n down id cause (Some since) own is = sym is

pub stood_own : (n : ℕ) (down : Bool) (d : NodeMonitor) (status : Status) (cause : Option Cause) → nat_eq d.id n ≡ true → StandsAs down (Some d) → Follows n down (stood_news d status cause) (is_some cause)
stood_own n down d status None own (is, so) =
    follows_both n down down false (answers_news d.id (d.presence.is_hanging && begins_run d.status status)) (up_news d.id status.boot (was_up d.status))
    (follows_all n down (answers_news d.id (d.presence.is_hanging && begins_run d.status status)) (answers_plain n down d.id (d.presence.is_hanging && begins_run d.status status)))
    (up_own n down d.id status.boot (was_up d.status) own (λ up. sym so ∙ was_up_so d.status up))
stood_own n down d status (Some cause) own (is, so) = down_own n down d.id cause d.down own is

up_stands : (d : NodeMonitor) (now : ℕ) (new up : Bool) → is_some (up_behind d now new up).down ≡ false
up_stands d now new true = refl
up_stands d now new false = refl

down_stands : (d : NodeMonitor) (now : ℕ) (down : Option Outage) → d.down ≡ down → is_some (down_behind d now down).down ≡ true
down_stands d now None is = refl
down_stands d now (Some since) is = ap (λ (down : Option Outage). is_some down) is

stood_stands : (d : NodeMonitor) (now : ℕ) (new up : Bool) (cause : Option Cause) → is_some (stood_behind d now new up cause).down ≡ is_some cause
stood_stands d now new up None = up_stands d now new up
stood_stands d now new up (Some cause) = down_stands d now d.down refl

-- the monitor after a report knows what it said
pub heard_stands : (d : NodeMonitor) (now told : ℕ) (status : Status) (progress : Progress) → StandsAs (is_some status.down) (Some (heard_behind d now told status progress))
heard_stands d now told status progress = (
  stood_stands (told_behind d now told status progress) now (begins_run d.status status) (was_up d.status) status.down,
  ap (λ (x : Look). is_down_so x.status) (heard_look d now told status progress),
)
