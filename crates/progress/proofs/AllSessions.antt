-- The laws of sessions, over all lists of events.
use Rattle.std.proofs.Common.{◌≡◌, ℕ, ◌≤◌, true, Bool, List, length, Some}
use Rattle.raft_log.specs.Lists.{item}
use Rattle.raft_log.specs.Node.{Node, is_leader}
use Rattle.node_steps.specs.Asking.{new_session}
use Rattle.raft_node.specs.Machine.{Machine}
use Rattle.raft_node.specs.Sound.{IsSound}
use Rattle.agreement.specs.Laws.{IsMajority}
use Rattle.agreement.proofs.Counts.{majorities_meet}
use Rattle.world_run.specs.World.{Event}
use Rattle.world_run.specs.Laws.{OverAll}
use Rattle.world_run.proofs.Soundness.{each_is_sound}
use Rattle.progress.specs.Plans.{candidate}
use Rattle.progress.specs.Laws.{HasRoom, after}
use Rattle.progress.specs.Sessions.{ready, new_live, HasAttempts, SessionsCanOpen, WaitingIsClaimed}
use Rattle.progress.proofs.Staying.{Bound, bound_sound}
use Rattle.progress.proofs.Opening.{ready_leader, is_opened, is_claimed}
use Rattle.progress.proofs.Reaching.{here, long, onward}

module _ (M : Machine) where
  bound : (size : ℕ) (es : List (Event M)) (a : ℕ) (s : Node M.Body) → item (after M size es) a ≡ Some s → Bound s
  bound size es a s at =
      let h : IsSound size s = each_is_sound M size es (length es) a s (here M size es a s at) in
      bound_sound s h.2

  -- the leader as it was when it opened that session
  pub ready_leads : (size : ℕ) (es : List (Event M)) (set : List Bool) → 2 ≤ size → IsMajority size set → HasRoom M set (after M size es) → HasAttempts M (candidate set (after M size es)) (after M size es)
      → (l : Node M.Body) × (item (ready M set (after M size es)) (candidate set (after M size es)) ≡ Some l) × (is_leader l.role ≡ true) × (new_session l ≡ new_live M set (after M size es))
  ready_leads size es set two most room has_attempts =
      let i = majorities_meet size set set most most in
      ready_leader M set size i.0 (after M size es) (onward M size es) (long M size es) two most i.1 room
      (λ s at. bound size es (candidate set (after M size es)) s at) has_attempts

  pub sessions_can_open : OverAll M SessionsCanOpen
  sessions_can_open size es set two most room has_attempts =
      let i = majorities_meet size set set most most in
      is_opened M set size i.0 (after M size es) (onward M size es) (long M size es) two most i.1 room
      (λ s at. bound size es (candidate set (after M size es)) s at) has_attempts

  pub waiting_is_claimed : OverAll M WaitingIsClaimed
  waiting_is_claimed size es set number two most room has_attempts more_room waits =
      let i = majorities_meet size set set most most in
      is_claimed M set size i.0 (after M size es) (onward M size es) (long M size es) two most i.1 room
      (λ s at. bound size es (candidate set (after M size es)) s at) has_attempts number more_room waits
