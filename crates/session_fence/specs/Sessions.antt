-- Sessions with upstream that follow one another. A history has each command with its place, the newest first.
use Rattle.std.specs.Prelude.{ℕ, zero, suc, ◌+◌, Bool, true, false, ◌&&◌, ◌||◌, if◌then◌else◌, ◌==◌, nat_lt, List, [], ◌∷◌, ◌++◌, map, Option, Some, None, is_some}
use Rattle.irc_line.specs.Lines.{Parts}
use Rattle.machine_laws.specs.Runs.{History, came_at, effects_at}
use Rattle.machine_laws.specs.Sessions.{same_session, is_that}
use Rattle.wire_bytes.specs.declared.origin.Origin.{Origin}
use Rattle.wire_bytes.specs.declared.session_id.SessionId.{SessionId}
use Rattle.session_fence.specs.declared.command.FenceCommand.{FenceCommand}
use Rattle.session_fence.specs.declared.command.FenceCommand.TheVariants.{Inner, Opened, Shut, Heard}
use Rattle.session_fence.specs.declared.effect.FenceEffect.{FenceEffect}
use Rattle.session_fence.specs.declared.effect.FenceEffect.TheVariants as effect

-- by term, then by attempt
abbrev pub is_below : SessionId → SessionId → Bool
is_below a b = nat_lt a.0 b.0 || a.0 == b.0 && nat_lt a.1 b.1

-- an id is above the greatest one so far
abbrev pub is_new : Option SessionId → SessionId → Bool
is_new None id = true
is_new (Some top) id = is_below top id

-- the numbers from 1 to this one
abbrev pub numbers_to : ℕ → List ℕ
numbers_to zero = []
numbers_to (suc n) = numbers_to n ++ suc n ∷ []

-- an effect below that joins a channel again does so for this session
abbrev pub for_session : {E : Type 0} → SessionId → E → Option Parts → FenceEffect E
for_session id e None = effect.Inner e
for_session id e (Some line) = effect.Rejoin id line

-- the line that an effect sends for a client, and the client's origin, as the machine below says
abbrev pub sent : {E : Type 0} → (E → Option (Origin × Parts)) → FenceEffect E → Option (Origin × Parts)
sent below (effect.Inner e) = below e
sent below (effect.Rejoin id line) = None

module _ {C L : Type 0} where
  -- an effect of the machine below as an effect of this command
  abbrev pub labelled : {E : Type 0} → (E → Option Parts) → FenceCommand C L → E → FenceEffect E
  labelled rejoined (Opened id) e = for_session id e (rejoined e)
  labelled rejoined _ e = effect.Inner e

  -- the command that opens this session
  abbrev pub opens : SessionId → FenceCommand C L → Bool
  opens id (Opened other) = same_session other id
  opens id _ = false

  -- the command that shuts this session
  abbrev pub shuts : SessionId → FenceCommand C L → Bool
  shuts id (Shut other) = same_session other id
  shuts id _ = false

  -- the greatest id after a command
  abbrev pub greatest_after : Option SessionId → FenceCommand C L → Option SessionId
  greatest_after top (Opened id) = if is_new top id then Some id else top
  greatest_after top _ = top

  -- the greatest id that was opened
  abbrev pub greatest : History (FenceCommand C L) → Option SessionId
  greatest [] = None
  greatest (x ∷ earlier) = greatest_after (greatest earlier) x.1

  -- a session was opened
  abbrev pub was_opened : History (FenceCommand C L) → SessionId → Bool
  was_opened [] id = false
  was_opened (x ∷ earlier) id = opens id x.1 || was_opened earlier id

  -- a Shut for it follows its first Opened
  abbrev pub was_shut : History (FenceCommand C L) → SessionId → Bool
  was_shut [] id = false
  was_shut (x ∷ earlier) id = shuts id x.1 && was_opened earlier id || was_shut earlier id

  -- a session, where it was not shut after its first Opened
  abbrev pub unless_shut : History (FenceCommand C L) → Option SessionId → Option SessionId
  unless_shut h None = None
  unless_shut h (Some id) = if was_shut h id then None else Some id

  -- the session in force: the greatest id that was opened, unless it was shut since
  unfoldable pub session : History (FenceCommand C L) → Option SessionId
  session h = unless_shut h (greatest h)

  -- a line that is the next one of the session in force, by how many lines of each session were taken before
  abbrev pub is_next : Option SessionId → (SessionId → ℕ) → FenceCommand C L → Bool
  is_next now taken (Heard id n at l) = is_that now id && n == taken id + 1
  is_next now taken _ = false

  -- a line of this session
  abbrev pub is_line_of : SessionId → FenceCommand C L → Bool
  is_line_of id (Heard other n at l) = same_session other id
  is_line_of id _ = false

  -- how many lines of a session were taken
  unfoldable pub lines_taken : History (FenceCommand C L) → SessionId → ℕ
  lines_taken [] id = 0
  lines_taken (x ∷ earlier) id =
      if is_line_of id x.1 && is_next (session earlier) (lines_taken earlier) x.1 then lines_taken earlier id + 1 else lines_taken earlier id

  -- the number of a line in its session
  abbrev pub number_of : FenceCommand C L → ℕ
  number_of (Heard id n at l) = n
  number_of _ = 0

  -- the numbers of the lines of a session that were taken, in the order in which they came
  unfoldable pub numbers_taken : History (FenceCommand C L) → SessionId → List ℕ
  numbers_taken [] id = []
  numbers_taken (x ∷ earlier) id =
      if is_line_of id x.1 && is_next (session earlier) (lines_taken earlier) x.1 then numbers_taken earlier id ++ number_of x.1 ∷ [] else numbers_taken earlier id

  module _ (up down : C) (heard : ℕ → L → C) where
    -- the commands for the machine below that a command gives, in order: a new session is up, after the one before it
    -- is down; the session in force that is shut is down; the next line of the session in force is heard; any other
    -- command about sessions gives none
    abbrev pub given : Option SessionId → Option SessionId → (SessionId → ℕ) → FenceCommand C L → List C
    given top now taken (Inner c) = c ∷ []
    given top now taken (Opened id) = if is_new top id then (if is_some now then down ∷ up ∷ [] else up ∷ []) else []
    given top now taken (Shut id) = if is_that now id then down ∷ [] else []
    given top now taken (Heard id n at l) = if is_that now id && n == taken id + 1 then heard at l ∷ [] else []

    -- the commands of the machine below that a command gives after a history
    unfoldable pub commands : History (FenceCommand C L) → FenceCommand C L → List C
    commands earlier x = given (greatest earlier) (session earlier) (lines_taken earlier) x

    -- the commands of the machine below, each at the place of the command that gave it
    unfoldable pub plain : History (FenceCommand C L) → History C
    plain [] = []
    plain (x ∷ earlier) = came_at x.0 (commands earlier x.1) (plain earlier)

    module _ {E : Type 0} (rejoined : E → Option Parts) (effects : History C → ℕ → C → List E) where
      -- what a command brings about at a place
      unfoldable pub answers : History (FenceCommand C L) → ℕ → FenceCommand C L → List (FenceEffect E)
      answers earlier place x = map (labelled rejoined x) (effects_at effects place (commands earlier x) (plain earlier))
