-- A session is opened, and a line that waits is claimed by it.
use Rattle.std.specs.Prelude.{◌≡◌, ◌≤◌, ◌<◌, ℕ, suc, Bool, List, [], ◌∷◌, ◌++◌, length, Option, None, Some}
use Rattle.raft_log.specs.declared.entry.Entry.{Entry}
use Rattle.raft_log.specs.declared.node_state.Live.{Live}
use Rattle.raft_log.specs.declared.role.Role.TheVariants.{Leader}
use Rattle.raft_log.specs.Lists.{item}
use Rattle.raft_log.specs.Logs.{entry_limit}
use Rattle.raft_log.specs.Node.{Node}
use Rattle.raft_node.specs.Machine.{Machine}
use Rattle.raft_node.specs.Steps.{applied_history}
use Rattle.agreement.specs.Laws.{IsIn, IsMajority}
use Rattle.world_run.specs.World.{World, Event, run}
use Rattle.progress.specs.Plans.{greatest_term, log_of, term_of, attempts_of, open_events, claim_events, candidate, get_ready, open_session, claim_line}
use Rattle.progress.specs.Laws.{boot_of, HasRoom, IsBy, IsAnswered, after}
use Rattle.wire_bytes.specs.Limits.{number_limit}

-- the session of this attempt in this term, before its first line
abbrev pub session_of : ℕ → ℕ → Live
session_of term attempt = record { id = (term, attempt); next = 1 }

module _ (M : Machine) where
  -- the number of the line that waits, by what a node has applied
  abbrev pub waits_at : Option (Node M.Body) → Option ℕ
  waits_at None = None
  waits_at (Some s) = M.next_claim (applied_history M s)

  -- By at most this many events of the set a node leads it, in the run in which it was, with this
  -- session. The last event applies this body there, right after these entries: each of the set has
  -- committed it, and what it brings about for that session leaves.
  pub record IsDone
      (set : List Bool) (c most : ℕ) (live : Live) (log : List (Entry M.Body)) (body : M.Body)
      (w : World M) (es : List (Event M))
      : Type 0 where
    pub by : IsBy M set most w es
    pub leader : Node M.Body
    pub at : item (run M es w) c ≡ Some leader
    pub leads : leader.role ≡ Leader
    pub term_is : leader.term ≡ live.id.0
    pub live_is : leader.live ≡ Some live
    pub log_is : leader.log ≡ log ++ record { term = leader.term; body = body } ∷ []
    pub applied_is : leader.applied ≡ suc (length log)
    pub committed :
        (j : ℕ) → IsIn set j →
        (t : Node M.Body) × (item (run M es w) j ≡ Some t)
        × (t.log ≡ leader.log) × (t.commit ≡ suc (length log))
    pub answered : IsAnswered M c (boot_of (item w c)) (Some live) log body w es

  -- the world in which a node of the set leads, and has no session
  abbrev pub ready : List Bool → World M → World M
  ready set w = run M (get_ready M set w) w

  -- the world in which it has opened one
  abbrev pub with_session : List Bool → World M → World M
  with_session set w = run M (open_session M set w) w

  -- the session that it opened: of its term, and with one more attempt than it had made in its run
  abbrev pub new_live : List Bool → World M → Live
  new_live set w =
      session_of (term_of (item (ready set w) (candidate set w)))
      (suc (attempts_of (item w (candidate set w))))

  -- by these events the leader's new session is opened, right after all that it had
  abbrev pub IsOpened : List Bool → World M → List (Event M) → Type 0
  IsOpened set w es =
      let c : ℕ = candidate set w in
      IsDone set c (open_events (length w) (greatest_term w) (length (log_of (item w c))))
      (new_live set w) (log_of (item (ready set w) c)) (M.opened (new_live set w).id) w es

  -- by these it claims the line of this number, right after the opening of its session
  abbrev pub IsClaimed : List Bool → ℕ → World M → List (Event M) → Type 0
  IsClaimed set number w es =
      let c : ℕ = candidate set w in
      IsDone set c (claim_events (length w) (greatest_term w) (length (log_of (item w c))))
      (new_live set w) (log_of (item (with_session set w) c))
      (M.claim (new_live set w).id number) w es

  -- the node has attempts left in its run, of which there are 2^60
  abbrev pub HasAttempts : ℕ → World M → Type 0
  HasAttempts c w = attempts_of (item w c) < number_limit

  -- whatever happened, any majority has a node that comes to lead it and opens a new session
  abbrev pub SessionsCanOpen : ℕ → List (Event M) → Type 0
  SessionsCanOpen size es =
      (set : List Bool) →
      2 ≤ size → IsMajority size set → HasRoom M set (after M size es) →
      HasAttempts (candidate set (after M size es)) (after M size es) →
      IsOpened set (after M size es) (open_session M set (after M size es))

  -- and a line that waits then is claimed by it, if its log takes three more entries
  abbrev pub WaitingIsClaimed : ℕ → List (Event M) → Type 0
  WaitingIsClaimed size es =
      (set : List Bool) (number : ℕ) →
      2 ≤ size → IsMajority size set → HasRoom M set (after M size es) →
      HasAttempts (candidate set (after M size es)) (after M size es) →
      suc (suc (length (log_of (item (after M size es) (candidate set (after M size es))))))
      < entry_limit →
      waits_at (item (with_session set (after M size es)) (candidate set (after M size es)))
      ≡ Some number →
      IsClaimed set number (after M size es) (claim_line M set (after M size es))
