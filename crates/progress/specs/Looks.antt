-- A look at a node of a majority is played.
use Rattle.std.specs.Prelude.{◌≡◌, ◌≤◌, ℕ, Bool, List, length, Some}
use Rattle.raft_log.specs.Lists.{item}
use Rattle.raft_log.specs.Node.{Node}
use Rattle.raft_node.specs.Machine.{Machine, history}
use Rattle.raft_node.specs.Steps.{Looked}
use Rattle.agreement.specs.World.{Begins}
use Rattle.agreement.specs.Laws.{IsIn, IsMajority}
use Rattle.world_run.specs.World.{World, Event, Does, Look, run, out_of, agreed}
use Rattle.progress.specs.Plans.{greatest_term, log_of, play_events, candidate, play}
use Rattle.progress.specs.Laws.{boot_of, HasRoom, IsBy, after, asking}

module _ (M : Machine) where
  -- By these events of the set a node, in the run in which it was, has applied all that the set's
  -- leader settled, and a look there, of whatever target, from any place of that, is played.
  pub record IsPlayed (set : List Bool) (a : ℕ) (w : World M) (es : List (Event M)) : Type 0 where
    pub by :
        IsBy M set
        (play_events (length w) (greatest_term w) (length (log_of (item w (candidate set w)))))
        w es
    pub node : Node M.Body
    pub at : item (run M es w) a ≡ Some node
    pub boot_is : node.boot ≡ boot_of (item w a)
    pub has : node.log ≡ log_of (item (asking M set w) (candidate set w))
    pub plays :
        (from_place : ℕ) (target : M.Target) → from_place ≤ length node.log →
        out_of M (run M es w) (Does (Look a from_place target))
        ≡ Looked (length node.log) (M.playback (history node.log) target)

  -- whatever happened, this holds at any node of any majority; and all that any node committed at
  -- any moment is in what is played
  abbrev pub LooksArePlayed : ℕ → List (Event M) → Type 0
  LooksArePlayed size es =
      (set : List Bool) (a : ℕ) →
      2 ≤ size → IsMajority size set → IsIn set a → HasRoom M set (after M size es) →
      IsPlayed set a (after M size es) (play M set a (after M size es))
      × Begins (agreed M size es)
      (log_of (item (run M (play M set a (after M size es)) (after M size es)) a))
