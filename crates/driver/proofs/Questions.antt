-- A question for who is in a channel goes after said lines, and at most one for a channel waits.
use Rattle.std.proofs.Common.{◌≡◌, ◌∙◌, ◌++◌, Bool, true, false, not, List, [], ◌∷◌, Option, Some, None, refl, sym, ap, subst}
use Rattle.std.specs.Prelude.{◌||◌, ◌&&◌, if◌then◌else◌, is_some, length, nat_le}
use Rattle.driver.specs.declared.outgoing.TheConstants.{MOST_QUESTIONS}
use Rattle.std.specs.List.{list_any}
use Rattle.std.proofs.lemmas.List.{append_assoc, append-nil}
use Rattle.irc_line.specs.Lines.{Parts, parameter}
use Rattle.driver.specs.declared.outgoing.Piece.{Piece}
use Rattle.driver.specs.declared.outgoing.Piece.TheVariants.{Joins, Opens, Says}
use Rattle.driver.specs.Joining.{Joined}
use Rattle.driver.specs.Outgoing.{Waiting, asks_names, is_about, is_asked, next_of, piece_by, rest_by, rest_of}
use Rattle.driver.specs.Queueing.{AreApart, Drop, End, Go, Hand, Join, Open, QuestionsWait, Queue, Turn, at_last, behind, nothing_queued}
use Rattle.driver.proofs.Queueing.{first_none, join_lines, nothing_fine, rest_none, turns_fine}

abbrev or_line : Parts → Option Piece → Parts
or_line line (Some (Says other)) = other
or_line line (Some (Opens other)) = line
or_line line (Some (Joins join)) = line
or_line line None = line

behind_said : (due : Bool) (joins : List Joined) (joining : Option Joined) (said questions : List Parts) (line : Parts) → list_any asks_names said ≡ false
    → next_of due joins joining said questions ≡ Some (Says line) → asks_names line ≡ true → said ≡ []
behind_said due (join ∷ joins) joining said questions line none is asks = absurd (cc is)
behind_said due [] (Some join) said questions line none is asks = absurd (cc is)
behind_said due [] None [] questions line none is asks = refl
behind_said due [] None (other ∷ said) questions line none is asks =
    let same : other ≡ line = ap (or_line line) is in
    let none_here = first_none (asks_names other) (list_any asks_names said) none in
    absurd (cc (sym (ap asks_names same ∙ asks) ∙ none_here))

go_behind : (due : Bool) (opening : List Parts) (waiting : Waiting) (line : Parts) → list_any asks_names waiting.said ≡ false
    → piece_by due opening waiting ≡ Some (Says line) → asks_names line ≡ true → waiting.said ≡ []
go_behind due [] waiting line none is asks = behind_said due waiting.joins waiting.joining waiting.said waiting.questions line none is asks
go_behind due (first ∷ opening) waiting line none is asks = absurd (cc is)

apart_less : (first : Parts) (before lines : List Parts) → AreApart (first ∷ before) lines → AreApart before lines
unfolding AreApart
apart_less first before [] apart = tt
apart_less first before (line ∷ more) (none, apart) = (
  rest_none (is_about (parameter 0 line) first) (list_any (is_about (parameter 0 line)) before) none,
  apart_less first (before ++ line ∷ []) more apart,
)

apart_more : (before lines : List Parts) (line : Parts) → list_any (is_about (parameter 0 line)) (before ++ lines) ≡ false → AreApart before lines → AreApart before (lines ++ line ∷ [])
unfolding AreApart
apart_more before [] line none apart =
    (ap (list_any (is_about (parameter 0 line))) (sym (append-nil before)) ∙ none, tt)
apart_more before (first ∷ lines) line none (here, apart) = (
  here,
  apart_more (before ++ first ∷ []) lines line (ap (list_any (is_about (parameter 0 line))) (append_assoc before (first ∷ []) lines) ∙ none) apart,
)

handed_apart : (asks asked full : Bool) (line : Parts) (waiting : Waiting) → is_asked line waiting ≡ asked → AreApart [] waiting.questions
    → AreApart [] (if asks then (if asked || full then waiting else record waiting { questions = waiting.questions ++ line ∷ [] }) else record waiting { said = waiting.said ++ line ∷ [] }).questions
handed_apart false asked full line waiting is apart = apart
handed_apart true true full line waiting is apart = apart
handed_apart true false true line waiting is apart = apart
handed_apart true false false line waiting is apart = apart_more [] waiting.questions line is apart

gone_apart : (due : Bool) (joins : List Joined) (joining : Option Joined) (said questions : List Parts) → AreApart [] questions → AreApart [] (rest_of due joins joining said questions).questions
unfolding AreApart
gone_apart due (join ∷ joins) joining said questions apart = apart
gone_apart due [] (Some join) said questions apart = apart
gone_apart due [] None (line ∷ said) questions apart = apart
gone_apart false [] None [] questions apart = apart
gone_apart true [] None [] [] apart = tt
gone_apart true [] None [] (line ∷ questions) (none, apart) = apart_less line [] questions apart

go_apart : (due : Bool) (opening : List Parts) (waiting : Waiting) → AreApart [] waiting.questions → AreApart [] (rest_by due opening waiting).questions
go_apart due [] waiting apart = gone_apart due waiting.joins waiting.joining waiting.said waiting.questions apart
go_apart due (line ∷ opening) waiting apart = apart

handed_apart_if : (asks dropping asked full : Bool) (line : Parts) (waiting : Waiting) → is_asked line waiting ≡ asked → AreApart [] waiting.questions
    → AreApart [] (if dropping && not asks then waiting else (if asks then (if asked || full then waiting else record waiting { questions = waiting.questions ++ line ∷ [] }) else record waiting { said = waiting.said ++ line ∷ [] })).questions
handed_apart_if asks false asked full line waiting is apart = handed_apart asks asked full line waiting is apart
handed_apart_if true true asked full line waiting is apart = handed_apart true asked full line waiting is apart
handed_apart_if false true asked full line waiting is apart = apart

turn_apart : (turn : Turn) (queue : Queue) → AreApart [] queue.waiting.questions → AreApart [] (behind turn queue).waiting.questions
turn_apart (Open lines) queue apart = apart
turn_apart (Hand line) queue apart =
    let waiting = queue.waiting in
    handed_apart_if (asks_names line) (is_some queue.dropping) (is_asked line waiting) (nat_le MOST_QUESTIONS (length waiting.questions)) line waiting refl apart
turn_apart (Join channel key) queue apart =
    let (said, questions, opening) = join_lines queue.waiting.joining channel key queue.waiting in
    subst (λ (lines : List Parts). AreApart [] lines) (sym questions) apart
turn_apart (Go due) queue apart = go_apart due queue.waiting.opening queue.waiting apart
turn_apart Drop queue apart = apart
turn_apart End queue apart = apart

turns_apart : (turns : List Turn) (queue : Queue) → AreApart [] queue.waiting.questions → AreApart [] (at_last turns queue).waiting.questions
unfolding at_last
turns_apart [] queue apart = apart
turns_apart (turn ∷ turns) queue apart = turns_apart turns (behind turn queue) (turn_apart turn queue apart)

none_apart : AreApart [] []
unfolding AreApart
none_apart = tt

pub questions_wait : QuestionsWait
questions_wait = record {
  behind = λ turns due line is asks.
      let last = (at_last turns nothing_queued).waiting in
      go_behind due last.opening last line (turns_fine turns nothing_queued nothing_fine).sorted.said is asks;
  apart = λ turns. turns_apart turns nothing_queued none_apart;
}
