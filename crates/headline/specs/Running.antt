-- Laws of running bouncers.
use Rattle.std.specs.Prelude.{◌≡◌, ℕ, List, length}
use Rattle.buffer_commands.specs.Settings.{Settings}
use Rattle.world_run.specs.World.{Event}
use Rattle.headline.specs.Tower.{tower}
use Rattle.headline.specs.Promises.{IsHeadline}
use Rattle.world_views.specs.Views.{IsAt}
use Rattle.world_views.specs.Own.{ViewOf}
use Rattle.world_views.specs.Rule.{AreHonest, IsRule}
use Rattle.world_views.specs.Merged.{PlacedOf}
use Rattle.world_views.specs.Openings.{OpenedAfter, whole}
use Rattle.world_views.specs.Outputs.{IsHistory, handed_by}
use Rattle.world_views.specs.Laws.{NoneInBoth}

module _ (s : Settings) where
  -- These events of all records, after the events `before`, are the history of these views; the headline holds for it,
  -- and no number was handed out by two of the nodes.
  pub record AreRunning (before : List (Event (tower s))) (views : List (ViewOf (tower s))) (es : List (PlacedOf (tower s))) : Type 0 where
    pub history : IsHistory (tower s) before views es
    pub headline : IsHeadline s (length views) (whole (tower s) before views es)
    pub apart : (i j : ℕ) (v w : ViewOf (tower s)) → IsAt views i v → IsAt views j w → (i ≡ j → ⊥) →
        NoneInBoth (handed_by (tower s) v) (handed_by (tower s) w)

  -- this is so if the views keep the rule over honest stores, and the openings are as the events `before` leave the
  -- nodes
  abbrev pub KeepThePromises : Type 0
  KeepThePromises =
      (size next : ℕ) (before : List (Event (tower s))) (views : List (ViewOf (tower s))) →
      IsRule (tower s) size next views → AreHonest (tower s) views → OpenedAfter (tower s) before views →
      (es : List (PlacedOf (tower s))) × AreRunning before views es
