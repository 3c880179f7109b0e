-- Nodes that were opened over stores that were begun anew.
use Rattle.std.specs.Prelude.{◌≡◌, ℕ, suc, List, [], ◌++◌, length, Option, Some, None}
use Rattle.buffer_commands.specs.Settings.{Settings}
use Rattle.bouncer_tower.specs.Bodies.{TowerBody}
use Rattle.raft_log.specs.declared.entry.Entry.{Entry}
use Rattle.raft_log.specs.Lists.{item}
use Rattle.raft_log.specs.Node.{Node}
use Rattle.raft_node.specs.Starting.{begun}
use Rattle.world_run.specs.World.{Event}
use Rattle.world_views.specs.Views.{IsAt}
use Rattle.world_views.specs.Own.{ViewOf}
use Rattle.world_views.specs.Rule.{AreHonest, IsRule}
use Rattle.world_views.specs.Merged.{PlacedOf}
use Rattle.world_views.specs.Openings.{OpenedAfter, restarts}
use Rattle.headline.specs.Tower.{tower}
use Rattle.headline.specs.Running.{AreRunning}
use Rattle.store_life.specs.Renewed.{IsAnew, Leaves, begun_anew, entries}

-- the node was opened over a store that was begun anew with this run, this term and this log: it begins its next run by that
abbrev pub IsOpenedAnew : {B : Type 0} → ℕ → ℕ → ℕ → List (Entry B) → Option (ℕ × Node B) → Type 0
IsOpenedAnew size boot term log None = Unit {0}
IsOpenedAnew size boot term log (Some b) = b.1 ≡ begun size (begun_anew boot term log) []

module _ (s : Settings) where
  -- each node that was opened was opened over such a store: that of its run
  abbrev pub WereAnew : List ℕ → ℕ → List TowerBody → List (ViewOf (tower s)) → Type 0
  WereAnew boots term bodies views =
      (i boot : ℕ) (v : ViewOf (tower s)) → IsAt views i v → item boots (suc i) ≡ Some boot → IsOpenedAnew (length views) boot term (entries term bodies) v.opened

  -- Events that leave what is begun anew, and a restart of every node after them, come before nodes that were opened
  -- over it.
  pub record IsBefore (boots : List ℕ) (term : ℕ) (bodies : List TowerBody) (es : List (Event (tower s))) : Type 0 where
    pub leaves : Leaves s es boots term bodies
    pub opened : (views : List (ViewOf (tower s))) → length views ≡ length boots → WereAnew boots term bodies views → OpenedAfter (tower s) (es ++ restarts (tower s) (length boots)) views

  -- there are such events for all that is begun anew
  abbrev pub AnewIsOpened : Type 0
  AnewIsOpened = (boots : List ℕ) (term : ℕ) (bodies : List TowerBody) → IsAnew s boots term bodies → (es : List (Event (tower s))) × IsBefore boots term bodies es

  -- so bouncers that run over it keep the promises of the bouncer, after such events
  abbrev pub AnewKeepsThePromises : Type 0
  AnewKeepsThePromises =
      (boots : List ℕ) (term : ℕ) (bodies : List TowerBody) → IsAnew s boots term bodies →
      (size next : ℕ) (views : List (ViewOf (tower s))) →
      IsRule (tower s) size next views → AreHonest (tower s) views → length views ≡ length boots → WereAnew boots term bodies views →
      (before : List (Event (tower s))) × IsBefore boots term bodies before
      × (es : List (PlacedOf (tower s))) × AreRunning s (before ++ restarts (tower s) (length boots)) views es
