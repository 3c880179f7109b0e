-- A session joins the channels again.
use Rattle.std.specs.Prelude.{◌≡◌, ◌≤◌, ℕ, Bool, List, [], ◌∷◌, map, codes}
use Rattle.irc_line.specs.Lines.{Parts}
use Rattle.machine_laws.specs.declared.class.Class.TheVariants.{Rejoin}
use Rattle.machine_laws.specs.Runs.{History}
use Rattle.raft_log.specs.Lists.{item}
use Rattle.raft_node.specs.Machine.{Machine, history}
use Rattle.raft_node.specs.Steps.{Left}
use Rattle.agreement.specs.Laws.{IsMajority}
use Rattle.buffer_commands.specs.Settings.{Settings}
use Rattle.buffer_machine.specs.Buffers.{channels}
use Rattle.buffer_machine.specs.Held.{commands}
use Rattle.buffer_machine.specs.Messages.{bare}
use Rattle.bouncer_tower.specs.Bodies.{TowerBody, plain}
use Rattle.world_run.specs.World.{World, Event, Does, Apply, run, out_of}
use Rattle.progress.specs.Plans.{log_of, candidate, open_session}
use Rattle.progress.specs.Laws.{HasRoom, after}
use Rattle.progress.specs.Sessions.{ready, new_live, HasAttempts, IsOpened}

-- the line `JOIN #channel`
abbrev pub joining : List ℕ → Parts
joining channel = bare (codes "JOIN") (channel ∷ [])

-- the channels that the buffers hold, by what was applied
abbrev pub channels_held : Settings → History TowerBody → List (List ℕ)
channels_held s h = channels s (commands (plain h))

module _ (M : Machine) where
  -- By these events the leader's new session is opened. The last of them applies its opening there,
  -- and what leaves by that is the line that joins each channel that was held before it, in order,
  -- for that session, and nothing else. The same channels are held after it. `held` gives the
  -- channels that are held by what was applied.
  pub record IsJoined
      (held : History M.Body → List (List ℕ)) (set : List Bool) (w : World M) (es : List (Event M))
      : Type 0 where
    pub opened : IsOpened M set w es
    pub place : ℕ
    pub effects : List M.Effect
    pub comes :
        out_of M (run M opened.answered.before w) (Does (Apply (candidate set w)))
        ≡ Left place effects
    pub joins :
        map M.class effects
        ≡ map (λ channel. Rejoin (new_live M set w).id (joining channel))
        (held (history (log_of (item (ready M set w) (candidate set w)))))
    pub stay :
        held (history (log_of (item (run M es w) (candidate set w))))
        ≡ held (history (log_of (item (ready M set w) (candidate set w))))

  -- whatever happened, any majority has a node that opens a new session, which joins all channels
  -- that are held
  abbrev pub SessionsJoin : (History M.Body → List (List ℕ)) → ℕ → List (Event M) → Type 0
  SessionsJoin held size es =
      (set : List Bool) →
      2 ≤ size → IsMajority size set → HasRoom M set (after M size es) →
      HasAttempts M (candidate set (after M size es)) (after M size es) →
      IsJoined held set (after M size es) (open_session M set (after M size es))
