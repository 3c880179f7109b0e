-- A line that waits is handed upstream.
use Rattle.std.specs.Prelude.{◌≡◌, ◌≤◌, ◌<◌, ℕ, suc, Bool, List, [], ◌∷◌, ◌++◌, length, Option, Some}
use Rattle.irc_line.specs.Lines.{Parts}
use Rattle.wire_bytes.specs.declared.session_id.SessionId.{SessionId}
use Rattle.machine_laws.specs.declared.class.Class.TheVariants.{Hand}
use Rattle.machine_laws.specs.Runs.{History}
use Rattle.raft_log.specs.Lists.{item}
use Rattle.raft_log.specs.Logs.{entry_limit}
use Rattle.raft_node.specs.Machine.{Machine, history}
use Rattle.raft_node.specs.Steps.{Left}
use Rattle.agreement.specs.Laws.{IsMajority}
use Rattle.world_run.specs.World.{World, Event, Does, Apply, run, out_of}
use Rattle.progress.specs.Plans.{log_of, candidate, claim_line}
use Rattle.progress.specs.Laws.{HasRoom, after}
use Rattle.progress.specs.Sessions.{waits_at, with_session, new_live, HasAttempts}

module _ (M : Machine) where
  -- The last of these events is at this node, and what leaves by it has a line that this session
  -- hands upstream under this number.
  pub record IsHanded
      (c : ℕ) (id : SessionId) (number : ℕ) (line : Parts) (w : World M) (es : List (Event M))
      : Type 0 where
    pub before : List (Event M)
    pub ends : es ≡ before ++ Does (Apply c) ∷ []
    pub place : ℕ
    pub effects : List M.Effect
    pub comes : out_of M (run M before w) (Does (Apply c)) ≡ Left place effects
    pub effect : M.Effect
    pub is_there : (k : ℕ) × (item effects k ≡ Some effect)
    pub hands : M.class effect ≡ Hand id number line

  -- whatever happened, the session that is opened is the one in force; `in_force` is that, by what
  -- was applied
  abbrev pub NewIsInForce : (History M.Body → Option SessionId) → ℕ → List (Event M) → Type 0
  NewIsInForce in_force size es =
      (set : List Bool) →
      2 ≤ size → IsMajority size set → HasRoom M set (after M size es) →
      HasAttempts M (candidate set (after M size es)) (after M size es) →
      in_force
      (history
      (log_of (item (with_session M set (after M size es)) (candidate set (after M size es)))))
      ≡ Some (new_live M set (after M size es)).id

  -- whatever happened, if a line of this number waits once a majority has a leader with a new
  -- session, it is handed upstream by that; `line_of` is the line of a number, by what was applied
  abbrev pub WaitingIsHanded :
      (History M.Body → ℕ → Option Parts) → ℕ → List (Event M) → Type 0
  WaitingIsHanded line_of size es =
      (set : List Bool) (number : ℕ) →
      2 ≤ size → IsMajority size set → HasRoom M set (after M size es) →
      HasAttempts M (candidate set (after M size es)) (after M size es) →
      suc (suc (length (log_of (item (after M size es) (candidate set (after M size es))))))
      < entry_limit →
      waits_at M (item (with_session M set (after M size es)) (candidate set (after M size es)))
      ≡ Some number →
      (line : Parts)
      × (line_of
      (history
      (log_of (item (with_session M set (after M size es)) (candidate set (after M size es)))))
      number
      ≡ Some line)
      × IsHanded (candidate set (after M size es)) (new_live M set (after M size es)).id number line
      (after M size es) (claim_line M set (after M size es))
