-- What a claim depends on stays until the turn of the leader of the greatest term, and this node stays that leader.
use Rattle.std.proofs.Common.{◌≡◌, ◌∙◌, ℕ, ◌-◌, Bool, true, false, List, [], Option, Some, None, refl, sym, ap, subst, slice_get}
use Rattle.irc_line.specs.Lines.{Parts}
use Rattle.driver.specs.declared.driver.Driver.{Driver}
use Rattle.driver.specs.declared.link.Stage.{Stage}
use Rattle.driver.specs.declared.link.Stage.TheVariants.{Closing, Connecting, Idle, Open}
use Rattle.driver.specs.declared.news.Ending.{Ending}
use Rattle.driver.specs.declared.news.Ending.TheVariants.{LedNoMore}
use Rattle.driver.specs.declared.node_monitor.NodeMonitor.{NodeMonitor}
use Rattle.driver.specs.declared.pace.Pace.{Pace}
use Rattle.driver.specs.declared.settings.Settings.{Settings}
use Rattle.driver.specs.Driving.{Ends, LeavesIf, LeavesOlder, QuitsIf, ServesIf, TicksMonitor, TicksNode, ticked}
use Rattle.driver.specs.Leading.{IsLeader, is_older, is_that, term_at, term_in, term_of}
use Rattle.driver.specs.Links.{is_open, node_of, waiting_behind}
use Rattle.driver.specs.Outgoing.{Waiting}
use Rattle.driver.specs.Pacing.{may_go}
use Rattle.driver.specs.Schedule.{IsFree, only_questions}
use Rattle.driver.specs.Waking.{awake, slept, waited_longer}
use Rattle.driver.proofs.Claiming.{apart_eq, same_eq}
use Rattle.driver.proofs.Leading.{leader_kept, only_leader}
use Rattle.driver.proofs.Monitors.{Look, changed_same, look_at, look_in, mapped_same, ticked_look}
use Rattle.driver.proofs.Moves.{monitors_of}

-- What a claim depends on stays.
pub record Goes (now : ℕ) (old new : Driver) : Type 0 where
  pub looks : (j : ℕ) → look_at new.monitors j ≡ look_at old.monitors j
  pub free : IsFree now old → IsFree now new
  pub settings : new.settings ≡ old.settings

abbrev pub waiting_of : Driver → Waiting
waiting_of driver = driver.link.waiting

abbrev pub pace_of : Driver → Pace
pace_of driver = driver.pace

abbrev pub settings_of : Driver → Settings
settings_of driver = driver.settings

free_same : (now : ℕ) (old new : Driver) → waiting_of new ≡ waiting_of old → pace_of new ≡ pace_of old → IsFree now old → IsFree now new
free_same now old new waiting pace f = record {
  questions = f.questions;
  waiting = waiting ∙ f.waiting;
  may = subst (λ (p : Pace). may_go p.burst p.line_ms p.free_at now ≡ true) (sym pace) f.may;
}

pub goes_of : (now : ℕ) (old new : Driver) → monitors_of new ≡ monitors_of old → waiting_of new ≡ waiting_of old → pace_of new ≡ pace_of old → settings_of new ≡ settings_of old → Goes now old new
goes_of now old new monitors waiting pace settings = record {
  looks = λ j. ap (λ (monitors : List NodeMonitor). look_at monitors j) monitors;
  free = λ f. free_same now old new waiting pace f;
  settings = settings;
}

pub goes_by : (now : ℕ) (old new : Driver) → new ≡ old → Goes now old new
goes_by now old new same = goes_of now old new (ap monitors_of same) (ap waiting_of same) (ap pace_of same) (ap settings_of same)

pub goes_both : (now : ℕ) (old mid new : Driver) → Goes now old mid → Goes now mid new → Goes now old new
goes_both now old mid new first last = record {
  looks = λ j. last.looks j ∙ first.looks j;
  free = λ f. last.free (first.free f);
  settings = last.settings ∙ first.settings;
}

pub awake_goes : (now : ℕ) (old : Driver) → Goes now old (awake now old)
awake_goes now old = record {
  looks = λ j. mapped_same (waited_longer (slept old.ran old.settings.timeout_ms now)) (λ d. refl) old.monitors j;
  free = λ f. free_same now old (awake now old) refl refl f;
  settings = refl;
}

pub monitor_goes : (now node : ℕ) (old new : Driver) → TicksMonitor now node old new → Goes now old new
monitor_goes now node old new t = record {
  looks = λ j.
      ap (λ (monitors : List NodeMonitor). look_at monitors j) t.monitors
      ∙ changed_same (ticked old.orders old.retirements.all old.settings now) (ticked_look old.orders old.retirements.all old.settings now) old.monitors node j;
  free = λ f. free_same now old new (ap waiting_of t.rest) (ap pace_of t.rest) f;
  settings = ap settings_of t.rest;
}

-- The connection to the server ends.

record OnlyQuestions (waiting : Waiting) : Type 0 where
  questions : List Parts
  are : waiting ≡ only_questions questions

waiting_only : (stage : Stage) (waiting : Waiting) (questions : List Parts) → waiting ≡ only_questions questions → OnlyQuestions (waiting_behind stage waiting)
waiting_only (Idle since wait) waiting questions are = record { questions = questions; are = are }
waiting_only (Closing since wait) waiting questions are = record { questions = questions; are = are }
waiting_only (Connecting node) waiting questions are = record { questions = []; are = refl }
waiting_only (Open session) waiting questions are = record { questions = []; are = refl }

ends_free : (now at : ℕ) (why : Ending) (old new : Driver) → Ends at why old new → IsFree now old → IsFree now new
ends_free now at why old new e f =
    let q = waiting_only old.link.stage old.link.waiting f.questions f.waiting in
    record {
      questions = q.questions;
      waiting = e.waiting ∙ q.are;
      may = subst (λ (p : Pace). may_go p.burst p.line_ms p.free_at now ≡ true) (sym (ap pace_of e.rest)) f.may;
    }

pub leaves_goes : (leaves : Bool) (now : ℕ) (why : Ending) (old new : Driver) → LeavesIf leaves now why old new → Goes now old new
leaves_goes false now why old new same = goes_by now old new same
leaves_goes true now why old new l = record {
  looks = λ j. ap (λ (monitors : List NodeMonitor). look_at monitors j) (ap monitors_of l.ends.rest ∙ ap monitors_of l.rest);
  free = λ f. ends_free now now why l.closed new l.ends (free_same now old l.closed (ap waiting_of l.rest) (ap pace_of l.rest) f);
  settings = ap settings_of l.ends.rest ∙ ap settings_of l.rest;
}

-- If it belongs to an older leader it is left.

quits_goes : (quits : Bool) (now : ℕ) (old new : Driver) → QuitsIf quits now old new → Goes now old new
quits_goes false now old new l = leaves_goes true now LedNoMore old new l
quits_goes true now old new q = record {
  looks = λ j. ap (λ (monitors : List NodeMonitor). look_at monitors j) (ap monitors_of q.rest ∙ ap monitors_of q.ends.rest ∙ ap monitors_of q.says.rest);
  free = λ f.
      free_same now q.ended new (ap waiting_of q.rest) (ap pace_of q.rest)
      (ends_free now now LedNoMore q.said q.ended q.ends (free_same now old q.said (ap waiting_of q.says.rest) (ap pace_of q.says.rest) f));
  settings = ap settings_of q.rest ∙ ap settings_of q.ends.rest ∙ ap settings_of q.says.rest;
}

older_goes : (older : Bool) (now : ℕ) (old new : Driver) → LeavesOlder older now old new → Goes now old new
older_goes false now old new same = goes_by now old new same
older_goes true now old new q = quits_goes (is_open old.link.stage) now old new q

pub left_goes : (now node : ℕ) (old new : Driver) (t : TicksNode now node old new) → Goes now old t.left
left_goes now node old new t =
    goes_both now old t.told t.left (monitor_goes now node old t.told t.ticks)
    (older_goes (is_older (node_of t.told.link.stage) t.leader) now t.told t.left t.leaves)

-- The leader of the greatest term is served in its turn, and no other node is.

abbrev look_term : Option Look → Option ℕ
look_term None = None
look_term (Some x) = term_of x.status

term_looked : (found : Option NodeMonitor) → term_in found ≡ look_term (look_in found)
term_looked None = refl
term_looked (Some d) = refl

goes_terms : (now : ℕ) (old new : Driver) → Goes now old new → (other : ℕ) → term_at new.monitors other ≡ term_at old.monitors other
goes_terms now old new g other =
    term_looked (slice_get new.monitors (other - 1)) ∙ ap look_term (g.looks (other - 1)) ∙ sym (term_looked (slice_get old.monitors (other - 1)))

pub goes_leader : (n now : ℕ) (old new : Driver) → Goes now old new → IsLeader old.monitors (Some n) → IsLeader new.monitors (Some n)
goes_leader n now old new g leads = leader_kept old.monitors new.monitors (Some n) (goes_terms now old new g) leads

leader_here : (n now node : ℕ) (old new : Driver) (t : TicksNode now node old new) → IsLeader old.monitors (Some n) → t.leader ≡ Some n
leader_here n now node old new t leads =
    only_leader t.told.monitors t.leader n (goes_leader n now old t.told (monitor_goes now node old t.told t.ticks) leads) t.is_leader

pub node_leads : (n now : ℕ) (old new : Driver) (t : TicksNode now n old new) → IsLeader old.monitors (Some n) → is_that t.leader n ≡ true
node_leads n now old new t leads = ap (λ (leader : Option ℕ). is_that leader n) (leader_here n now n old new t leads) ∙ same_eq n

same_unserved : (serves : Bool) (now node : ℕ) (old new : Driver) → serves ≡ false → ServesIf serves now node old new → new ≡ old
same_unserved false now node old new is same = same
same_unserved true now node old new is s = absurd (cc is)

not_served : (leader : Option ℕ) (n now node : ℕ) (old new : Driver) → leader ≡ Some n → (node ≡ n → ⊥) → ServesIf (is_that leader node) now node old new → new ≡ old
not_served leader n now node old new is apart s =
    same_unserved (is_that leader node) now node old new
    (ap (λ (leader : Option ℕ). is_that leader node) is ∙ apart_eq n node (λ e. apart (sym e))) s

pub node_goes : (n now node : ℕ) (old new : Driver) → (node ≡ n → ⊥) → TicksNode now node old new → IsLeader old.monitors (Some n) → Goes now old new
node_goes n now node old new apart t leads =
    goes_both now old t.left new (left_goes now node old new t)
    (goes_by now t.left new (not_served t.leader n now node t.left new (leader_here n now node old new t leads) apart t.serves))
