-- The life of a store whose nodes run: periods with the views of all nodes.
use Rattle.std.specs.Prelude.{◌≡◌, ◌⊎◌, ◌<◌, ◌++◌, Bool, true, ℕ, zero, suc, List, [], ◌∷◌, length, map, Some, slice_get}
use Rattle.irc_line.specs.Lines.{Parts}
use Rattle.buffer_commands.specs.Settings.{Settings}
use Rattle.bouncer_tower.specs.Bodies.{TowerBody}
use Rattle.raft_log.specs.declared.entry.Entry.{Entry}
use Rattle.raft_log.specs.Lists.{item}
use Rattle.raft_log.specs.Logs.{last_term, up_to_date}
use Rattle.raft_log.specs.Node.{Node}
use Rattle.raft_node.specs.Parts.{saved_by}
use Rattle.agreement.specs.Laws.{IsIn, IsMajority}
use Rattle.world_run.specs.World.{Event, handed}
use Rattle.world_views.specs.Laws.{NoneInBoth}
use Rattle.world_views.specs.Views.{IsAt, IsOpened}
use Rattle.world_views.specs.Own.{ViewOf}
use Rattle.world_views.specs.Merged.{PlacedOf}
use Rattle.world_views.specs.Openings as openings
use Rattle.world_views.specs.Openings.{events_in, first_world}
use Rattle.world_views.specs.Rule.{AreHonest, IsRule}
use Rattle.world_views.specs.Outputs.{IsHistory, handed_by}
use Rattle.headline.specs.Running.{AreRunning}
use Rattle.headline.specs.Tower.{tower}
use Rattle.store_life.specs.Openings.{WereAnew}
use Rattle.store_life.specs.Periods.{IsLife, IsPeriod, Period, WereBegunAnew, WereNew, base_behind, end_of, handed_in, serial}
use Rattle.store_life.specs.Renewed.{IsAnew}

-- A period of nodes that ran: what happened over the stores before they were last opened, their views since, and the
-- events of all records in one list.
pub record RunningPeriod : Type 0 where
  pub settings : Settings
  pub before : List (Event (tower settings))
  pub earlier : List (Event (tower settings))
  pub views : List (ViewOf (tower settings))
  pub records : List (PlacedOf (tower settings))
  pub begun : List TowerBody
  pub chosen : List (Entry TowerBody)

-- the events before the nodes were last opened, and those in all records
abbrev pub opened_after : (r : RunningPeriod) → List (Event (tower r.settings))
opened_after r = r.before ++ r.earlier

abbrev pub recorded : (r : RunningPeriod) → List (Event (tower r.settings))
recorded r = events_in (tower r.settings) (first_world (tower r.settings) (r.before ++ r.earlier) r.views) r.records

-- as a period of a group
abbrev pub period_of : RunningPeriod → Period
period_of r =
    record {
      settings = r.settings;
      size = length r.views;
      before = r.before;
      events = r.earlier ++ recorded r;
      begun = r.begun;
      chosen = r.chosen;
    }

-- the records are one history of the group
abbrev pub HasHistory : RunningPeriod → Type 0
HasHistory r = IsHistory (tower r.settings) (opened_after r) r.views r.records

-- each of these lines is one of those, with its number
abbrev pub AreAmong : List (ℕ × Parts) → List (ℕ × Parts) → Type 0
AreAmong lines more = (k : ℕ) (h : ℕ × Parts) → slice_get lines k ≡ Some h → (m : ℕ) × (slice_get more m ≡ Some h)

-- what a node handed upstream in its view is part of what its period hands
abbrev pub ViewsHandOfTheirPeriod : Type 0
ViewsHandOfTheirPeriod =
    (r : RunningPeriod) → HasHistory r → (i : ℕ) (v : ViewOf (tower r.settings)) → IsAt r.views i v → AreAmong (handed_by (tower r.settings) v) (handed_in (period_of r))

-- it is nothing that was handed before the nodes were last opened: no number is in both
abbrev pub ViewsHandOthers : Type 0
ViewsHandOthers =
    (r : RunningPeriod) → HasHistory r → (i : ℕ) (v : ViewOf (tower r.settings)) → IsAt r.views i v →
    NoneInBoth (handed (tower r.settings) (length r.views) (opened_after r)) (handed_by (tower r.settings) v)

-- at the end of its period an opened node has saved what its view says
abbrev pub NodesEndAsViewed : Type 0
NodesEndAsViewed =
    (r : RunningPeriod) → HasHistory r → (i : ℕ) (v : ViewOf (tower r.settings)) (b : ℕ × Node TowerBody) → IsAt r.views i v → v.opened ≡ Some b →
    (x : Node TowerBody) × (item (end_of (period_of r)) (suc i) ≡ Some x) × (saved_by x ≡ saved_by v.state)

-- how many lines were claimed in a life before the period at a place, from 0
abbrev pub base_at : ℕ → List Period → ℕ → ℕ
base_at base [] i = base
base_at base (p ∷ later) zero = base
base_at base (p ∷ later) (suc i) = base_at (base_behind base p) later i

-- the periods of running nodes, as a life
abbrev pub periods_of : List RunningPeriod → List Period
periods_of rs = map period_of rs

-- each of them has a history
abbrev pub AllHaveHistory : List RunningPeriod → Type 0
AllHaveHistory rs = (i : ℕ) (r : RunningPeriod) → slice_get rs i ≡ Some r → HasHistory r

-- no node hands upstream a line that a node of an earlier period handed: their serials differ
abbrev pub NoneHandedAgain : Type 0
NoneHandedAgain =
    (rs : List RunningPeriod) → IsLife (periods_of rs) → AllHaveHistory rs →
    (i j : ℕ) (p q : RunningPeriod) → i < j → slice_get rs i ≡ Some p → slice_get rs j ≡ Some q →
    (a b : ℕ) (v : ViewOf (tower p.settings)) (w : ViewOf (tower q.settings)) → IsAt p.views a v → IsAt q.views b w →
    (k l n m : ℕ) (one other : Parts) → slice_get (handed_by (tower p.settings) v) k ≡ Some (n, one) → slice_get (handed_by (tower q.settings) w) l ≡ Some (m, other) →
    serial (base_at 0 (periods_of rs) i) (period_of p) n < serial (base_at 0 (periods_of rs) j) (period_of q) m

-- such a period, by its parts
abbrev pub ran : (s : Settings) → List (Event (tower s)) → List (Event (tower s)) → List (ViewOf (tower s)) → List (PlacedOf (tower s)) → List TowerBody → List (Entry TowerBody) → RunningPeriod
ran s before earlier views records begun chosen =
    record { settings = s; before = before; earlier = earlier; views = views; records = records; begun = begun; chosen = chosen }

-- At the end the stores of a majority are whole, and their nodes ran; the others may be lost. The log that is chosen is that of a node whose
-- store is whole, at least as up to date as that of each of them.
pub record IsChosen (r : RunningPeriod) : Type 0 where
  pub whole : List Bool  -- the nodes whose stores are whole
  pub enough : IsMajority (length r.views) whole
  pub opened : (i : ℕ) (v : ViewOf (tower r.settings)) → IsIn whole (suc i) → IsAt r.views i v → IsOpened v
  pub place : ℕ
  pub view : ViewOf (tower r.settings)
  pub there : IsAt r.views place view
  pub is_whole : IsIn whole (suc place)
  pub log_is : view.state.log ≡ r.chosen
  pub best : (i : ℕ) (v : ViewOf (tower r.settings)) → IsIn whole (suc i) → IsAt r.views i v →
      up_to_date (last_term r.chosen) (length r.chosen) (last_term v.state.log) (length v.state.log) ≡ true

-- then it is a period of the group, if the stores were new or begun anew
abbrev pub RunIsPeriod : Type 0
RunIsPeriod =
    (r : RunningPeriod) → HasHistory r → WereNew (period_of r) ⊎ WereBegunAnew (period_of r) → IsChosen r → IsPeriod (period_of r)

-- nodes that run over new stores, and keep the rule, make the first period of a life
abbrev pub NewRunBegins : Settings → Type 0
NewRunBegins s =
    (size next : ℕ) (views : List (ViewOf (tower s))) →
    IsRule (tower s) size next views → AreHonest (tower s) views → openings.WereNew (tower s) views →
    (es : List (PlacedOf (tower s))) × AreRunning s [] views es
    × ((chosen : List (Entry TowerBody)) → WereNew (period_of (ran s [] [] views es [] chosen)))

-- nodes that run over stores that were begun anew make one that begins with these bodies
abbrev pub AnewRunBegins : Settings → Type 0
AnewRunBegins s =
    (boots : List ℕ) (term : ℕ) (bodies : List TowerBody) → IsAnew s boots term bodies →
    (size next : ℕ) (views : List (ViewOf (tower s))) →
    IsRule (tower s) size next views → AreHonest (tower s) views → length views ≡ length boots → WereAnew s boots term bodies views →
    (before : List (Event (tower s))) × (es : List (PlacedOf (tower s))) × AreRunning s (before ++ []) views es
    × ((chosen : List (Entry TowerBody)) → WereBegunAnew (period_of (ran s before [] views es bodies chosen)))

-- nodes that run over stores that hold what a period left so far continue it
abbrev pub RunGoesOn : Settings → Type 0
RunGoesOn s =
    (before earlier : List (Event (tower s))) (size next : ℕ) (views : List (ViewOf (tower s))) →
    IsRule (tower s) size next views → AreHonest (tower s) views → openings.HeldAfter (tower s) (before ++ earlier) views →
    (es : List (PlacedOf (tower s))) × AreRunning s (before ++ (earlier ++ openings.restarts (tower s) (length views))) views es
