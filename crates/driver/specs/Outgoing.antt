-- What waits to go to the server in a session: what each session sends first, JOINs of its channels, then what people
-- say, and after it questions for who is in a channel, which are asked for each channel as a client attaches.
use Rattle.std.specs.Prelude.{ℕ, Bool, false, ◌&&◌, ◌||◌, not, nat_eq, nat_le, nat_lt, if◌then◌else◌, codes, List, [], ◌∷◌, ◌++◌, drop, length, Option, Some, None}
use Rattle.std.specs.List.{list_any}
use Rattle.irc_line.specs.Lines.{Parts, cut_spelling, parameter}
use Rattle.irc_line.specs.Names.{same_name}
use Rattle.buffer_machine.specs.Messages.{has_command}
use Rattle.driver.specs.declared.outgoing.Piece.{Piece}
use Rattle.driver.specs.declared.outgoing.Piece.TheVariants.{Joins, Opens, Says}
use Rattle.driver.specs.declared.outgoing.TheConstants.{MOST_QUESTIONS}
use Rattle.driver.specs.Joining.{Joined, fits_in, join_bytes, no_channels, with_channel}

-- what waits, in the order in which it goes: what each session sends first; JOINs, and the last of them, which has room
-- for more channels; said lines; and lines that ask who is in a channel
pub record Waiting : Type 0 where
  pub opening : List Parts
  pub joins : List Joined
  pub joining : Option Joined
  pub said : List Parts
  pub questions : List Parts

-- nothing waits
abbrev pub nothing_waits : Waiting
nothing_waits = record { opening = []; joins = []; joining = None; said = []; questions = [] }

-- lines go before all else
abbrev pub with_opening : List Parts → Waiting → Waiting
with_opening lines waiting = record waiting { opening = waiting.opening ++ lines }

-- a channel is joined by the last JOIN, if there is one and it fits, and else by one of its own
abbrev pub join_by : Option Joined → List ℕ → List ℕ → Waiting → Waiting
join_by None channel key waiting = record waiting { joining = Some (with_channel channel key no_channels) }
join_by (Some line) channel key waiting =
    if fits_in line channel key
    then record waiting { joining = Some (with_channel channel key line) }
    else record waiting { joins = waiting.joins ++ line ∷ []; joining = Some (with_channel channel key no_channels) }

-- a channel waits to be joined, by a key, or without a key if it is empty
abbrev pub with_join : List ℕ → List ℕ → Waiting → Waiting
with_join channel key waiting = join_by waiting.joining channel key waiting

-- a line asks who is in a channel: a NAMES with only the channel
abbrev pub asks_names : Parts → Bool
asks_names line = has_command (codes "NAMES") line && nat_eq (length line.parameters) 1

-- a said line waits
abbrev pub has_said : Waiting → Bool
has_said waiting = nat_lt 0 (length waiting.said)

-- a line asks of this channel
abbrev pub is_about : List ℕ → Parts → Bool
is_about channel line = same_name channel (parameter 0 line)

-- a question of the same channel waits already
abbrev pub is_asked : Parts → Waiting → Bool
is_asked line waiting = list_any (is_about (parameter 0 line)) waiting.questions

-- a question is dropped: one of its channel waits, or too many wait
abbrev pub is_dropped : Parts → Waiting → Bool
is_dropped line waiting = is_asked line waiting || nat_le MOST_QUESTIONS (length waiting.questions)

-- a question comes after the others, unless it is dropped
abbrev pub with_question : Parts → Waiting → Waiting
with_question line waiting = if is_dropped line waiting then waiting else record waiting { questions = waiting.questions ++ line ∷ [] }

-- a line that was handed out waits in its place
abbrev pub with_line : Parts → Waiting → Waiting
with_line line waiting = if asks_names line then with_question line waiting else record waiting { said = waiting.said ++ line ∷ [] }

-- what waits without said lines
abbrev pub without_said : Waiting → Waiting
without_said waiting = record waiting { said = [] }

-- the first of these questions, if there is one
abbrev pub first_of : List Parts → Option Piece
first_of [] = None
first_of (line ∷ more) = Some (Says line)

-- the line that goes next: the first said line, and if there is none, and questions are due, the first question
abbrev pub next_line : Bool → List Parts → List Parts → Option Piece
next_line due [] questions = if due then first_of questions else None
next_line due (line ∷ said) questions = Some (Says line)

-- what goes next, if nothing goes before all else: the first JOIN, and after all of them a line
abbrev pub next_of : Bool → List Joined → Option Joined → List Parts → List Parts → Option Piece
next_of due (line ∷ joins) joining said questions = Some (Joins line)
next_of due [] (Some line) said questions = Some (Joins line)
next_of due [] None said questions = next_line due said questions

-- what waits after a line goes
abbrev pub rest_lines : Bool → List Parts → List Parts → Waiting
rest_lines due [] questions =
    record { opening = []; joins = []; joining = None; said = []; questions = if due then drop 1 questions else questions }
rest_lines due (line ∷ said) questions = record { opening = []; joins = []; joining = None; said = said; questions = questions }

-- what waits after that, if nothing goes before all else
abbrev pub rest_of : Bool → List Joined → Option Joined → List Parts → List Parts → Waiting
rest_of due (line ∷ joins) joining said questions =
    record { opening = []; joins = joins; joining = joining; said = said; questions = questions }
rest_of due [] (Some line) said questions = record { opening = []; joins = []; joining = None; said = said; questions = questions }
rest_of due [] None said questions = rest_lines due said questions

-- what goes next, if these lines go before all else
abbrev pub piece_by : Bool → List Parts → Waiting → Option Piece
piece_by due [] waiting = next_of due waiting.joins waiting.joining waiting.said waiting.questions
piece_by due (line ∷ opening) waiting = Some (Opens line)

-- what waits after it
abbrev pub rest_by : Bool → List Parts → Waiting → Waiting
rest_by due [] waiting = rest_of due waiting.joins waiting.joining waiting.said waiting.questions
rest_by due (line ∷ opening) waiting = record waiting { opening = opening }

-- what goes next of what waits
abbrev pub next_piece : Bool → Waiting → Option Piece
next_piece due waiting = piece_by due waiting.opening waiting

-- what waits after it
abbrev pub without_next : Bool → Waiting → Waiting
without_next due waiting = rest_by due waiting.opening waiting

-- it is a said line: one that was handed out, and is no question
abbrev pub is_said : Piece → Bool
is_said (Opens line) = false
is_said (Joins line) = false
is_said (Says line) = not (asks_names line)

-- the bytes of what goes, cut to what fits in a line
abbrev pub piece_bytes : Piece → List ℕ
piece_bytes (Opens line) = cut_spelling line
piece_bytes (Joins line) = join_bytes line
piece_bytes (Says line) = cut_spelling line
