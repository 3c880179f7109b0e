-- A node that hears of no leader, and what is left of its wait.
use Rattle.std.proofs.Common.{◌≡◌, ◌∙◌, ℕ, ◌+◌, ◌-◌, ◌*◌, ◌≤◌, Bool, true, false, Option, Some, None, refl, sym, ap, subst, arith}
use Rattle.std.specs.Prelude.{◌^◌, ◌/◌, ◌&&◌, ◌||◌, if◌then◌else◌, is_some, max, min, nat_eq, nat_le, nat_lt, not}
use Rattle.std.proofs.lemmas.Bool.{eqb-true, le-ltb, leb-true}
use Rattle.node_notes.specs.declared.progress.Progress.{Progress}
use Rattle.node_notes.specs.declared.status.Status.{Status}
use Rattle.node_notes.specs.Notes.{leads}
use Rattle.raft_log.specs.declared.role.Role.{Role}
use Rattle.raft_log.specs.declared.role.Role.TheVariants.{Candidate, Follower, Leader}
use Rattle.raft_node.specs.declared.node_fault.Cause.{Cause}
use Rattle.driver.specs.declared.driver.Driver.{Driver}
use Rattle.driver.specs.declared.node_monitor.NodeMonitor.{NodeMonitor}
use Rattle.driver.specs.declared.node_monitor.clock.TheConstants.{APART}
use Rattle.driver.specs.declared.settings.Settings.{Settings}
use Rattle.driver.specs.declared.timer.Timer.{Timer}
use Rattle.driver.specs.Absences.{shortened}
use Rattle.driver.specs.Hearing.{begins_run, heard_behind, is_follower, is_none, is_raised, stood_behind, told_behind, was_up}
use Rattle.driver.specs.Monitors.{at}
use Rattle.driver.specs.Schedule.{tells_of_none}
use Rattle.driver.proofs.Clocks.{woken}
use Rattle.driver.proofs.Moves.{Core, core, hastened_by}

-- A node is up and hears of no leader; when the driver last ran, this was left of its wait.
pub record IsSilent (n term contacts : ℕ) (settings : Settings) (ran left : ℕ) (c : Core) : Type 0 where
  pub id : c.id ≡ n
  pub is_up : c.down ≡ None
  pub status : Status
  pub is_status : c.status ≡ Some status
  pub stands : is_some status.down ≡ false
  pub follows : leads status ≡ false
  pub is_term : status.term ≡ term
  pub heard : c.progress.contacts ≡ contacts
  pub before : c.following.last_leader_contact.since ≤ ran
  pub enough : settings.timeout_ms + APART * n ≤ (ran - c.following.last_leader_contact.since) + left

pub hastened_silent : (n term contacts : ℕ) (settings : Settings) (ran left : ℕ) (short : Bool) (d : NodeMonitor) → IsSilent n term contacts settings ran left (core d) → IsSilent n term contacts settings ran left (core (hastened_by short d))
hastened_silent n term contacts settings ran left false d w = w
hastened_silent n term contacts settings ran left true d w = record {
  id = w.id;
  is_up = ap shortened w.is_up;
  status = w.status;
  is_status = w.is_status;
  stands = w.stands;
  follows = w.follows;
  is_term = w.is_term;
  heard = w.heard;
  before = w.before;
  enough = w.enough;
}

-- the driver was awake
later_before : (since ran now half : ℕ) → since ≤ ran → ran ≤ now → min (since + ((now - ran) - half)) (2 ^ 64 - 1) ≤ now
later_before since ran now half before goes = omega (arith, before, goes)

later_enough : (since ran now half wait left : ℕ) → since ≤ ran → ran ≤ now → wait ≤ (ran - since) + left → wait ≤ (now - min (since + ((now - ran) - half)) (2 ^ 64 - 1)) + (left - min (now - ran) half)
later_enough since ran now half wait left before goes enough = omega (arith, before, goes, enough)

pub woken_silent : (n term contacts left now : ℕ) (old : Driver) (d : NodeMonitor) → old.ran.since ≤ now → IsSilent n term contacts old.settings old.ran.since left (core d) → IsSilent n term contacts old.settings now (left - min (now - old.ran.since) (old.settings.timeout_ms / 2)) (core (woken old now d))
woken_silent n term contacts left now old d goes w = record {
  id = w.id;
  is_up = w.is_up;
  status = w.status;
  is_status = w.is_status;
  stands = w.stands;
  follows = w.follows;
  is_term = w.is_term;
  heard = w.heard;
  before = later_before d.following.last_leader_contact.since old.ran.since now (old.settings.timeout_ms / 2) w.before goes;
  enough = later_enough d.following.last_leader_contact.since old.ran.since now (old.settings.timeout_ms / 2) (old.settings.timeout_ms + APART * n) left w.before goes w.enough;
}

-- A report of no leader.
pub record OfNone (term contacts : ℕ) (status : Status) (progress : Progress) : Type 0 where
  pub stands : is_some status.down ≡ false
  pub follows : leads status ≡ false
  pub is_term : status.term ≡ term
  pub most : progress.contacts ≤ contacts

abbrev or_this : Status → Option Status → Status
or_this status None = status
or_this status (Some other) = other

none_so : (cause : Option Cause) → is_some cause ≡ false → is_none cause ≡ true
none_so None so = refl
none_so (Some cause) so = absurd (cc so)

pub and_first : (a b : Bool) → (a && b) ≡ true → a ≡ true
and_first true b is = refl
and_first false b is = absurd (cc is)

pub and_last : (a b : Bool) → (a && b) ≡ true → b ≡ true
and_last true b is = is
and_last false b is = absurd (cc is)

of_none_by : (a b c d : Bool) → (not a && not b && c && d) ≡ true → (a ≡ false) × (b ≡ false) × (c ≡ true) × (d ≡ true)
of_none_by true b c d is = absurd (cc is)
of_none_by false true c d is = absurd (cc is)
of_none_by false false false d is = absurd (cc is)
of_none_by false false true false is = absurd (cc is)
of_none_by false false true true is = (refl, refl, refl, refl)

pub of_none : (term contacts : ℕ) (status : Status) (progress : Progress) → tells_of_none term contacts status progress ≡ true → OfNone term contacts status progress
of_none term contacts status progress is =
    let (a, b, c, d) = of_none_by (is_some status.down) (leads status) (nat_eq status.term term) (nat_le progress.contacts contacts) is in
    record { stands = a; follows = b; is_term = eqb-true status.term term c; most = leb-true progress.contacts contacts d }

-- it moves no timer
kept_since : (led leads raised yielded : Bool) (now : ℕ) (timer : Timer) → led ≡ false → leads ≡ false → raised ≡ false → (if (led || leads) || raised && not yielded then at now else timer) ≡ timer
kept_since true leads raised yielded now timer a b c = absurd (cc a)
kept_since false true raised yielded now timer a b c = absurd (cc b)
kept_since false false true yielded now timer a b c = absurd (cc c)
kept_since false false false yielded now timer a b c = refl

raised_by : (role : Role) (before after term : ℕ) → before ≡ term → after ≡ term → (is_follower role && nat_lt before after) ≡ false
raised_by Candidate before after term first last = refl
raised_by Leader before after term first last = refl
raised_by Follower before after term first last = le-ltb before after (omega (arith, first, last))

is_not_raised : (known : Option Status) (status before : Status) (term : ℕ) → known ≡ Some before → before.term ≡ term → status.term ≡ term → is_raised known status ≡ false
is_not_raised None status before term is first last = absurd (cc is)
is_not_raised (Some other) status before term is first last =
    raised_by status.role other.term status.term term (ap (λ (found : Option Status). (or_this before found).term) is ∙ first) last

no_more : (known heard contacts : ℕ) → known ≡ contacts → heard ≤ contacts → nat_lt known heard ≡ false
no_more known heard contacts is most = le-ltb known heard (omega (arith, is, most))

same_most : (known heard contacts : ℕ) → known ≡ contacts → heard ≤ contacts → max known heard ≡ contacts
same_most known heard contacts is most = omega (arith, is, most)

was_up_by : (known : Option Status) (before : Status) → known ≡ Some before → is_some before.down ≡ false → was_up known ≡ true
was_up_by None before is so = absurd (cc is)
was_up_by (Some other) before is so = none_so other.down (ap (λ (found : Option Status). is_some (or_this before found).down) is ∙ so)

same_least : (known contacts : ℕ) → known ≡ contacts → known ≤ contacts
same_least known contacts is = omega (arith, is)

pub or_last : (a b : Bool) → a ≡ false → (a || b) ≡ true → b ≡ true
or_last true b none is = absurd (cc none)
or_last false b none is = is

-- what is known of it after such a report
told_silent : (n term contacts : ℕ) (settings : Settings) (ran left : ℕ) (status : Status) (m : NodeMonitor) (new up : Bool) (cause : Option Cause) → up ≡ true → is_some cause ≡ false → m.id ≡ n → m.status ≡ Some status → OfNone term contacts status m.progress → m.progress.contacts ≡ contacts → m.following.last_leader_contact.since ≤ ran → settings.timeout_ms + APART * n ≤ (ran - m.following.last_leader_contact.since) + left → (now : ℕ) → IsSilent n term contacts settings ran left (core (stood_behind m now new up cause))
told_silent n term contacts settings ran left status m new true None is so id here o heard before enough now = record {
  id = id;
  is_up = refl;
  status = status;
  is_status = here;
  stands = o.stands;
  follows = o.follows;
  is_term = o.is_term;
  heard = heard;
  before = before;
  enough = enough;
}
told_silent n term contacts settings ran left status m new false cause is so id here o heard before enough now = absurd (cc is)
told_silent n term contacts settings ran left status m new true (Some cause) is so id here o heard before enough now = absurd (cc so)

pub heard_silent : (n term contacts : ℕ) (settings : Settings) (ran left now told : ℕ) (status : Status) (progress : Progress) (d : NodeMonitor) → OfNone term contacts status progress → IsSilent n term contacts settings ran left (core d) → IsSilent n term contacts settings ran left (core (heard_behind d now told status progress))
heard_silent n term contacts settings ran left now told status progress d o w =
    let m = told_behind d now told status progress in
    let raised = is_not_raised d.status status w.status term w.is_status w.is_term o.is_term in
    let led = no_more d.progress.contacts progress.contacts contacts w.heard o.most in
    let timer : m.following.last_leader_contact ≡ d.following.last_leader_contact =
    kept_since (nat_lt d.progress.contacts progress.contacts) (leads status) (is_raised d.status status) d.following.has_yielded now d.following.last_leader_contact led o.follows raised
    in
    let heard : m.progress.contacts ≡ contacts = same_most d.progress.contacts progress.contacts contacts w.heard o.most in
    told_silent n term contacts settings ran left status m (begins_run d.status status) (was_up d.status) status.down
    (was_up_by d.status w.status w.is_status w.stands) o.stands w.id refl
    (record { stands = o.stands; follows = o.follows; is_term = o.is_term; most = same_least m.progress.contacts contacts heard }) heard
    (subst (λ (t : Timer). t.since ≤ ran) (sym timer) w.before)
    (subst (λ (t : Timer). settings.timeout_ms + APART * n ≤ (ran - t.since) + left) (sym timer) w.enough)
    now
