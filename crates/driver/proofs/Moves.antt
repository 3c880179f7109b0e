-- What the clock uses of what is known of a node, and which calls leave it unchanged.
use Rattle.std.proofs.Common.{◌≡◌, ◌∙◌, ℕ, zero, suc, ◌+◌, ◌-◌, Bool, true, false, List, [], ◌∷◌, Option, Some, None, refl, sym, ap, subst, slice_get}
use Rattle.std.specs.Prelude.{nat_lt, option_map}
use Rattle.wire_bytes.specs.declared.moment.Moment.{Moment}
use Rattle.client_gate.specs.Gates.{GateEffect}
use Rattle.buffer_commands.specs.declared.wire_line.WireLine.{WireLine}
use Rattle.bouncer_tower.specs.Bodies.{TowerBody}
use Rattle.node_notes.specs.declared.note.Note.{Note}
use Rattle.node_notes.specs.declared.progress.Progress.{Progress}
use Rattle.node_notes.specs.declared.status.Status.{Status}
use Rattle.driver.specs.declared.backoff.Backoff.{Backoff}
use Rattle.driver.specs.declared.driver.Driver.{Driver}
use Rattle.driver.specs.declared.level.Level.{Level}
use Rattle.driver.specs.declared.node_monitor.NodeMonitor.{NodeMonitor}
use Rattle.driver.specs.declared.node_monitor.standing.Following.{Following}
use Rattle.driver.specs.declared.node_monitor.standing.LastBeat.{LastBeat}
use Rattle.driver.specs.declared.node_monitor.standing.Outage.{Outage}
use Rattle.driver.specs.declared.settings.Settings.{Settings}
use Rattle.driver.specs.declared.timer.Timer.{Timer}
use Rattle.driver.specs.Absences.{CutsBy, HangNodes, HangsIf, TellsGroupIf, WatchesNodes, begins_in, goes_on, hang_limit, hanging, hastened, hastened_if, is_new, is_short}
use Rattle.driver.specs.Arriving.{boot_at, visited}
use Rattle.driver.specs.Calls.{ConnectsTo}
use Rattle.driver.specs.Driving.{changed_at}
use Rattle.driver.specs.Filling.{TellsLevelIf, WatchesFor, is_left_out}
use Rattle.driver.specs.Hearing.{turned_away}
use Rattle.driver.specs.Monitors.{is_over, monitor_claimed}
use Rattle.driver.specs.Passing.{PassEach}
use Rattle.driver.specs.Learning.{LearnsIf, nick_learnt}
use Rattle.driver.specs.Opening.{joined_as}
use Rattle.driver.specs.Retiring.{restart_behind, with_seen}
use Rattle.driver.specs.Sessions.{TakesIf, TellsAllOf, TellsIf}
use Rattle.driver.specs.Telling.{Ordered}
use Rattle.driver.proofs.Growing.{by_number}
use Rattle.driver.proofs.Keeping.{Line}
use Rattle.driver.proofs.Staying.{other_changed, own_changed}
use Rattle.std.proofs.lemmas.Option.{slice_get-map}
use Rattle.wire_bytes.specs.Limits.{number_limit}

-- What the clock uses.
pub record Core : Type 0 where
  pub id : ℕ
  pub status : Option Status
  pub progress : Progress
  pub following : Following
  pub beat : LastBeat
  pub down : Option Outage
  pub backoff : Backoff

abbrev pub core : NodeMonitor → Core
core d = record {
  id = d.id;
  status = d.status;
  progress = d.progress;
  following = d.following;
  beat = d.beat;
  down = d.down;
  backoff = d.backoff;
}

-- a driver's settings, and when it last ran
pub record Base : Type 0 where
  pub settings : Settings
  pub ran : Timer

abbrev pub base : Driver → Base
base driver = record { settings = driver.settings; ran = driver.ran }

-- a node's monitor after another one, with the same in all that the clock uses
pub record Found (n : ℕ) (d : NodeMonitor) (new : Driver) : Type 0 where
  pub behind : NodeMonitor
  pub is : slice_get new.monitors (n - 1) ≡ Some behind
  pub same : core behind ≡ core d

-- Nothing changes of what the clock uses.
pub record Rests (n : ℕ) (old new : Driver) : Type 0 where
  pub based : base new ≡ base old
  pub found : (d : NodeMonitor) → slice_get old.monitors (n - 1) ≡ Some d → Found n d new

abbrev pub monitors_of : Driver → List NodeMonitor
monitors_of driver = driver.monitors

pub found_same : (n : ℕ) (d : NodeMonitor) (old new : Driver) → new.monitors ≡ old.monitors → slice_get old.monitors (n - 1) ≡ Some d → Found n d new
found_same n d old new same is = record {
  behind = d;
  is = ap (λ (monitors : List NodeMonitor). slice_get monitors (n - 1)) same ∙ is;
  same = refl;
}

pub rests_same : (n : ℕ) (old new : Driver) → new.monitors ≡ old.monitors → base new ≡ base old → Rests n old new
rests_same n old new monitors based = record {
  based = based;
  found = λ d is. found_same n d old new monitors is;
}

pub rests_by : (n : ℕ) (old new : Driver) → new ≡ old → Rests n old new
rests_by n old new same = rests_same n old new (ap monitors_of same) (ap base same)

pub rests_both : (n : ℕ) (old mid new : Driver) → Rests n old mid → Rests n mid new → Rests n old new
rests_both n old mid new first last = record {
  based = last.based ∙ first.based;
  found = λ d is.
      let f = first.found d is in
      let l = last.found f.behind f.is in
      record { behind = l.behind; is = l.is; same = l.same ∙ f.same };
}

-- a change of one monitor
abbrev pub KeepsCore : (NodeMonitor → NodeMonitor) → Type 0
KeepsCore change = (d : NodeMonitor) → core (change d) ≡ core d

pub changed_here : (n : ℕ) (change : NodeMonitor → NodeMonitor) (monitors : List NodeMonitor) (d : NodeMonitor) → slice_get monitors (n - 1) ≡ Some d → slice_get (changed_at change monitors n) (n - 1) ≡ Some (change d)
changed_here n change monitors d is =
    own_changed change monitors (n - 1) (slice_get monitors (n - 1)) refl ∙ ap (λ (found : Option NodeMonitor). option_map change found) is

pub changed_there : (n node : ℕ) (change : NodeMonitor → NodeMonitor) (monitors : List NodeMonitor) → (n - 1 ≡ node - 1 → ⊥) → slice_get (changed_at change monitors node) (n - 1) ≡ slice_get monitors (n - 1)
changed_there n node change monitors apart = other_changed change monitors (node - 1) (n - 1) (slice_get monitors (node - 1)) apart

-- of another node
pub other_rests : (n node : ℕ) (change : NodeMonitor → NodeMonitor) (old new : Driver) → (n - 1 ≡ node - 1 → ⊥) → new.monitors ≡ changed_at change old.monitors node → base new ≡ base old → Rests n old new
other_rests n node change old new apart changed based = record {
  based = based;
  found = λ d is. record {
    behind = d;
    is = ap (λ (monitors : List NodeMonitor). slice_get monitors (n - 1)) changed ∙ changed_there n node change old.monitors apart ∙ is;
    same = refl;
  };
}

own_found : (n node : ℕ) (change : NodeMonitor → NodeMonitor) (monitors : List NodeMonitor) (d : NodeMonitor) → n - 1 ≡ node - 1 → slice_get monitors (n - 1) ≡ Some d → slice_get (changed_at change monitors node) (n - 1) ≡ Some (change d)
own_found n node change monitors d same is =
    subst (λ (k : ℕ). slice_get (changed_at change monitors node) k ≡ Some (change d)) (sym same)
    (changed_here node change monitors d (subst (λ (k : ℕ). slice_get monitors k ≡ Some d) same is))

-- of any, if the clock uses nothing that changes
pub changed_rests : (n node : ℕ) (change : NodeMonitor → NodeMonitor) → KeepsCore change → (old new : Driver) → new.monitors ≡ changed_at change old.monitors node → base new ≡ base old → Rests n old new
changed_rests n node change keeps old new changed based = record {
  based = based;
  found = λ d is.
      by_number (n - 1) (node - 1) (Found n d new)
      (λ same. record {
        behind = change d;
        is = ap (λ (monitors : List NodeMonitor). slice_get monitors (n - 1)) changed ∙ own_found n node change old.monitors d same is;
        same = keeps d;
      })
      (λ apart. (other_rests n node change old new apart changed based).found d is);
}

pub claimed_core : (orders : Ordered) (now : ℕ) (may : Bool) (due : Option Line) → KeepsCore (λ d. monitor_claimed orders d now may due)
claimed_core orders now may None d = refl
claimed_core orders now true (Some line) d = refl
claimed_core orders now false (Some line) d = refl

pub restarted_core : (orders : Ordered) (came : Option (Note TowerBody WireLine)) (d : NodeMonitor) → core (restart_behind orders d came) ≡ core d
restarted_core orders None d = refl
restarted_core orders (Some came) d = refl

-- A client connects.

visited_rests : (n : ℕ) (boot : Option ℕ) (taken : Bool) (node : ℕ) (old new : Driver) → new.monitors ≡ visited boot taken old.monitors node → base new ≡ base old → Rests n old new
visited_rests n None taken node old new is based = changed_rests n node turned_away (λ d. refl) old new is based
visited_rests n (Some boot) true node old new is based = changed_rests n node (with_seen boot) (λ d. refl) old new is based
visited_rests n (Some boot) false node old new is based = rests_same n old new is based

pub connect_rests : (n now node : ℕ) (old new : Driver) → ConnectsTo now node old new → Rests n old new
connect_rests n now node old new c =
    visited_rests n (boot_at old.monitors node) (nat_lt old.numbered number_limit) node old new c.monitors (ap base c.rest)

-- The server says something.

tells_rests : (n : ℕ) (out : Bool) (node : ℕ) (came : Note TowerBody WireLine) (old new : Driver) → TellsIf out node came old new → Rests n old new
tells_rests n true node came old new same = rests_by n old new same
tells_rests n false node came old new t =
    rests_same n old new
    (ap monitors_of t.rest ∙ ap monitors_of t.opens.rest ∙ ap monitors_of t.nick.rest)
    (ap base t.rest ∙ ap base t.opens.rest ∙ ap base t.nick.rest)

tells_all_rest : (n node : ℕ) (notes : List (Note TowerBody WireLine)) (old new : Driver) → TellsAllOf node notes old new → Rests n old new
unfolding TellsAllOf
tells_all_rest n node [] old new same = rests_by n old new same
tells_all_rest n node (came ∷ more) old new (behind, first, rest) =
    rests_both n old behind new (tells_rests n (is_left_out old.level came) node came old behind first) (tells_all_rest n node more behind new rest)

pub takes_rest : (n : ℕ) (node : Option ℕ) (now : ℕ) (at : Moment) (bytes : List ℕ) (old new : Driver) → TakesIf node now at bytes old new → Rests n old new
takes_rest n None now at bytes old new same = rests_by n old new same
takes_rest n (Some node) now at bytes old new t =
    rests_both n old t.taken new (rests_same n old t.taken (ap monitors_of t.rest) (ap base t.rest)) (tells_all_rest n node t.notes t.taken new t.tells)

-- The log is looked at.

level_rests : (n : ℕ) (rises : Bool) (node : ℕ) (level : Level) (old new : Driver) → TellsLevelIf rises node level old new → Rests n old new
level_rests n false node level old new same = rests_by n old new same
level_rests n true node level old new t = rests_same n old new (ap monitors_of t.rest) (ap base t.rest)

pub watch_rests : (n : ℕ) (leader : Option ℕ) (old new : Driver) → WatchesFor leader old new → Rests n old new
watch_rests n None old new same = rests_by n old new same
watch_rests n (Some node) old new w = level_rests n _ node _ old new w

-- Effects pass.

learns_rest : (n : ℕ) (nick : Option (List ℕ)) (old new : Driver) → LearnsIf nick old new → Rests n old new
learns_rest n None old new same = rests_by n old new same
learns_rest n (Some nick) old new l = rests_same n old new (ap monitors_of l.rest) (ap base l.rest)

pub passes_rest : (n now : ℕ) (at : Moment) (node : ℕ) (effects : List GateEffect) (old new : Driver) → PassEach now at node effects old new → Rests n old new
unfolding PassEach
passes_rest n now at node [] old new same = rests_by n old new same
passes_rest n now at node (effect ∷ effects) old new (behind, p, more) =
    let first = learns_rest n (nick_learnt old.given old.settings.nick (joined_as effect)) old p.learnt p.learns in
    let last = rests_same n p.learnt behind (ap monitors_of p.rest) (ap base p.rest) in
    rests_both n old behind new (rests_both n old p.learnt behind first last) (passes_rest n now at node effects behind new more)

-- The nodes are looked at: one that is down is started again soon if too few are up.

hang_rests : (n : ℕ) (hangs : Option ℕ) (now node : ℕ) (old new : Driver) → HangsIf hangs now node old new → Rests n old new
hang_rests n None now node old new same = rests_by n old new same
hang_rests n (Some boot) now node old new h = changed_rests n node (hanging boot) (λ d. refl) old new h.monitors (ap base h.rest)

hang_all_rest : (n count now node : ℕ) (old new : Driver) → HangNodes count now node old new → Rests n old new
unfolding HangNodes
hang_all_rest n zero now node old new same = rests_by n old new same
hang_all_rest n (suc count) now node old new (behind, first, more) =
    rests_both n old behind new
    (hang_rests n (begins_in old.settings.timeout_ms now (slice_get old.monitors (node - 1))) now node old behind first)
    (hang_all_rest n count now (node + 1) behind new more)

cuts_rest : (n now : ℕ) (going long : Bool) (old new : Driver) → CutsBy going long now old new → Rests n old new
cuts_rest n now false long old new is = rests_same n old new (ap monitors_of is) (ap base is)
cuts_rest n now true false old new same = rests_by n old new same
cuts_rest n now true true old new all = hang_all_rest n 7 now 1 old new all

group_rests : (n : ℕ) (tells short : Bool) (old new : Driver) → TellsGroupIf tells short old new → Rests n old new
group_rests n false short old new same = rests_by n old new same
group_rests n true short old new t = rests_same n old new (ap monitors_of t.rest) (ap base t.rest)

-- a monitor after a look at the nodes
abbrev pub hastened_by : Bool → NodeMonitor → NodeMonitor
hastened_by true d = hastened d
hastened_by false d = d

hastened_found : (n : ℕ) (short : Bool) (d : NodeMonitor) (monitors : List NodeMonitor) → slice_get monitors (n - 1) ≡ Some d → slice_get (hastened_if short monitors) (n - 1) ≡ Some (hastened_by short d)
hastened_found n false d monitors is = is
hastened_found n true d monitors is = slice_get-map hastened monitors (n - 1) ∙ ap (λ (found : Option NodeMonitor). option_map hastened found) is

-- What a look at the nodes does.
pub record Hastens (n : ℕ) (d : NodeMonitor) (old new : Driver) : Type 0 where
  pub short : Bool
  pub based : base new ≡ base old
  pub found : Found n (hastened_by short d) new

pub nodes_hasten : (n now : ℕ) (d : NodeMonitor) (old new : Driver) → slice_get old.monitors (n - 1) ≡ Some d → WatchesNodes now old new → Hastens n d old new
nodes_hasten n now d old new is w =
    let short = is_short old now in
    let first : slice_get w.hastens.monitors (n - 1) ≡ Some (hastened_by short d) =
    ap (λ (driver : Driver). slice_get driver.monitors (n - 1)) w.is_hastened ∙ hastened_found n short d old.monitors is
    in
    let next = cuts_rest n now (goes_on w.hastens now) (is_over w.hastens.going_on (hang_limit w.hastens.settings.timeout_ms) now) w.hastens w.seen w.cuts in
    let last = group_rests n (is_new short w.seen.is_short) short w.seen new w.tells in
    let both = rests_both n w.hastens w.seen new next last in
    record {
      short = short;
      based = both.based ∙ ap base w.is_hastened;
      found = both.found (hastened_by short d) first;
    }
