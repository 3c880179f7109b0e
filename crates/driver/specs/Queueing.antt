-- In which order lines go to the server in a session.
use Rattle.std.specs.Prelude.{◌≡◌, ◌⊎◌, ◌++◌, ◌+◌, ◌-◌, ◌^◌, Bool, true, false, if◌then◌else◌, ℕ, List, [], ◌∷◌, length, min, Option, Some, None}
use Rattle.std.specs.List.{list_any}
use Rattle.irc_line.specs.Lines.{Parts, parameter}
use Rattle.driver.specs.declared.outgoing.Piece.{Piece}
use Rattle.driver.specs.declared.outgoing.Piece.TheVariants.{Joins, Opens, Says}
use Rattle.driver.specs.Dropping.{dropping_begun, dropping_handed, drops, waiting_left, with_handed}
use Rattle.driver.specs.Outgoing.{Waiting, asks_names, is_about, next_piece, nothing_waits, with_join, with_opening, without_next}
use Rattle.driver.specs.Writing.{unheard_behind}

-- what waits in a session, and how many lines were dropped so far, while a drop goes on
pub record Queue : Type 0 where
  pub waiting : Waiting
  pub dropping : Option ℕ

-- nothing waits, and no drop goes on
abbrev pub nothing_queued : Queue
nothing_queued = record { waiting = nothing_waits; dropping = None }

-- A turn of a session: lines are to go before all else; a node hands out a line; a channel is to be joined again, by a
-- key or none; what goes next goes out, if there is something, and questions if they are due; DROP WAITING is said
-- while something waits; or a drop ends.
pub data Turn : Type 0 where
  Open : List Parts → Turn
  Hand : Parts → Turn
  Join : List ℕ → List ℕ → Turn
  Go : Bool → Turn
  Drop : Turn
  End : Turn

-- what waits after a turn
abbrev pub behind : Turn → Queue → Queue
behind (Open lines) queue = record queue { waiting = with_opening lines queue.waiting }
behind (Hand line) queue = record { waiting = with_handed queue.dropping line queue.waiting; dropping = dropping_handed queue.dropping line }
behind (Join channel key) queue = record queue { waiting = with_join channel key queue.waiting }
behind (Go due) queue = record queue { waiting = without_next due queue.waiting }
behind Drop queue = record {
  waiting = waiting_left true queue.waiting;
  dropping = dropping_begun true queue.waiting queue.dropping;
}
behind End queue = record queue { dropping = None }

-- what waits after these turns
unfoldable pub at_last : List Turn → Queue → Queue
at_last [] queue = queue
at_last (turn ∷ turns) queue = at_last turns (behind turn queue)

-- the line that goes out, if it is a said line
abbrev pub said_in : Option Piece → List Parts
said_in None = []
said_in (Some (Opens line)) = []
said_in (Some (Joins line)) = []
said_in (Some (Says line)) = if asks_names line then [] else line ∷ []

-- what goes out in a turn, if something does
abbrev pub piece_in : Turn → Queue → Option Piece
piece_in (Open lines) queue = None
piece_in (Hand line) queue = None
piece_in (Join channel key) queue = None
piece_in (Go due) queue = next_piece due queue.waiting
piece_in Drop queue = None
piece_in End queue = None

-- the said lines among those that go out in these turns
unfoldable pub said_out : List Turn → Queue → List Parts
said_out [] queue = []
said_out (turn ∷ turns) queue = said_in (piece_in turn queue) ++ said_out turns (behind turn queue)

-- a line that is handed out, if it is a said line
abbrev pub if_said : Parts → List Parts
if_said line = if asks_names line then [] else line ∷ []

-- the line that is handed out in a turn, if one is, and it is a said line
abbrev pub handed_in : Turn → List Parts
handed_in (Open lines) = []
handed_in (Hand line) = if_said line
handed_in (Join channel key) = []
handed_in (Go due) = []
handed_in Drop = []
handed_in End = []

-- the said lines among those that are handed out in these turns
unfoldable pub said_handed : List Turn → List Parts
said_handed [] = []
said_handed (turn ∷ turns) = handed_in turn ++ said_handed turns

-- the lines that are dropped in a turn
abbrev pub dropped_by : Turn → Queue → List Parts
dropped_by (Open lines) queue = []
dropped_by (Hand line) queue = if drops queue.dropping line then line ∷ [] else []
dropped_by (Join channel key) queue = []
dropped_by (Go due) queue = []
dropped_by Drop queue = queue.waiting.said
dropped_by End queue = []

-- and in these turns
unfoldable pub said_dropped : List Turn → Queue → List Parts
said_dropped [] queue = []
said_dropped (turn ∷ turns) queue = dropped_by turn queue ++ said_dropped turns (behind turn queue)

-- DROP WAITING is said
abbrev pub is_drop : Turn → Bool
is_drop Drop = true
is_drop (Open lines) = false
is_drop (Hand line) = false
is_drop (Join channel key) = false
is_drop (Go due) = false
is_drop End = false

-- a drop ends
abbrev pub is_end : Turn → Bool
is_end End = true
is_end (Open lines) = false
is_end (Hand line) = false
is_end (Join channel key) = false
is_end (Go due) = false
is_end Drop = false

-- these lines are those of two others, each once, and of each in order
unfoldable pub IsMerged : List Parts → List Parts → List Parts → Type 0
IsMerged ones others [] = (ones ≡ []) × (others ≡ [])
IsMerged ones others (line ∷ all) =
    ((more : List Parts) × (ones ≡ line ∷ more) × IsMerged more others all)
    ⊎ ((more : List Parts) × (others ≡ line ∷ more) × IsMerged ones more all)

-- Over every list of turns of a session: the said lines that were handed out are those that went out or wait, and those
-- that were dropped, each once and in order; if nobody says DROP WAITING all of them go out or wait.
pub record SaidGoInOrder : Type 0 where
  pub all :
      (turns : List Turn)
      → IsMerged (said_out turns nothing_queued ++ (at_last turns nothing_queued).waiting.said) (said_dropped turns nothing_queued) (said_handed turns)
  pub kept :
      (turns : List Turn) → list_any is_drop turns ≡ false
      → said_out turns nothing_queued ++ (at_last turns nothing_queued).waiting.said ≡ said_handed turns

-- the queue after turns of a session, and DROP WAITING there
abbrev pub dropped_at : List Turn → Queue
dropped_at earlier = behind Drop (at_last earlier nothing_queued)

-- Whatever happened in a session before DROP WAITING is said: until that drop ends no said line goes out, and none
-- waits, whatever is handed out; as many count as dropped as waited or were handed out, as far as 64 bits count, if no
-- drop went on before; and once it ended, what is handed out goes out in order, each line once, as long as nobody says
-- DROP WAITING.
pub record DropsWhatWaits : Type 0 where
  pub silent :
      (earlier turns : List Turn) → list_any is_end turns ≡ false
      → (said_out turns (dropped_at earlier) ≡ []) × ((at_last turns (dropped_at earlier)).waiting.said ≡ [])
  pub counted :
      (earlier turns : List Turn) → list_any is_end turns ≡ false → (at_last earlier nothing_queued).dropping ≡ None
      → (at_last turns (dropped_at earlier)).dropping
      ≡ Some (min (length (at_last earlier nothing_queued).waiting.said + length (said_handed turns)) (2 ^ 64 - 1))
  pub ended :
      (earlier turns later : List Turn) → list_any is_end turns ≡ false → list_any is_drop later ≡ false
      → let queue = behind End (at_last turns (dropped_at earlier)) in
      said_out later queue ++ (at_last later queue).waiting.said ≡ said_handed later

-- no two of these questions are for the same channel
unfoldable pub AreApart : List Parts → List Parts → Type 0
AreApart before [] = Unit {0}
AreApart before (line ∷ more) = (list_any (is_about (parameter 0 line)) before ≡ false) × AreApart (before ++ line ∷ []) more

-- Over every list of turns: a question goes out only while no said line waits, and no two waiting questions are for the
-- same channel.
pub record QuestionsWait : Type 0 where
  pub behind :
      (turns : List Turn) (due : Bool) (line : Parts) → next_piece due (at_last turns nothing_queued).waiting ≡ Some (Says line)
      → asks_names line ≡ true → (at_last turns nothing_queued).waiting.said ≡ []
  pub apart : (turns : List Turn) → AreApart [] (at_last turns nothing_queued).waiting.questions

-- how many said lines count as not heard of, after what goes out, if there is something
abbrev pub unheard_if : Option Piece → ℕ → ℕ
unheard_if None unheard = unheard
unheard_if (Some piece) unheard = unheard_behind piece unheard

-- and after these turns
unfoldable pub unheard_at_last : List Turn → Queue → ℕ → ℕ
unheard_at_last [] queue unheard = unheard
unheard_at_last (turn ∷ turns) queue unheard = unheard_at_last turns (behind turn queue) (unheard_if (piece_in turn queue) unheard)

-- Over every list of turns, from the moment the server was heard: as many lines count as not heard of as said lines
-- went out, as far as 64 bits count.
abbrev pub SaidAreCounted : Type 0
SaidAreCounted =
    (turns : List Turn) (queue : Queue) → unheard_at_last turns queue 0 ≡ min (length (said_out turns queue)) (2 ^ 64 - 1)

-- the line that goes out, if it goes before all else
abbrev pub opened_in : Option Piece → List Parts
opened_in None = []
opened_in (Some (Opens line)) = line ∷ []
opened_in (Some (Joins line)) = []
opened_in (Some (Says line)) = []

-- the lines that go before all else, among those that go out in these turns
unfoldable pub opened_out : List Turn → Queue → List Parts
opened_out [] queue = []
opened_out (turn ∷ turns) queue = opened_in (piece_in turn queue) ++ opened_out turns (behind turn queue)

-- the lines that are to go before all else, in a turn
abbrev pub opening_of : Turn → List Parts
opening_of (Open lines) = lines
opening_of (Hand line) = []
opening_of (Join channel key) = []
opening_of (Go due) = []
opening_of Drop = []
opening_of End = []

-- and in these turns
unfoldable pub opened_at : List Turn → List Parts
opened_at [] = []
opened_at (turn ∷ turns) = opening_of turn ++ opened_at turns

-- Over every list of turns of a session: the lines that are to go before all else go out in order, each once; and as long as one of them
-- waits, nothing else goes.
pub record OpeningGoesFirst : Type 0 where
  pub order : (turns : List Turn) → opened_out turns nothing_queued ++ (at_last turns nothing_queued).waiting.opening ≡ opened_at turns
  pub first :
      (turns : List Turn) (due : Bool) (line : Parts) (more : List Parts) → (at_last turns nothing_queued).waiting.opening ≡ line ∷ more
      → next_piece due (at_last turns nothing_queued).waiting ≡ Some (Opens line)
