-- What goes before all else in a session.
use Rattle.std.proofs.Common.{◌≡◌, ◌∙◌, ◌++◌, Bool, true, false, not, List, [], ◌∷◌, Option, Some, None, refl, sym, ap}
use Rattle.std.specs.Prelude.{◌&&◌, if◌then◌else◌, is_some}
use Rattle.std.proofs.lemmas.List.{append_assoc, append-nil}
use Rattle.irc_line.specs.Lines.{Parts}
use Rattle.driver.specs.Joining.{Joined}
use Rattle.driver.specs.Outgoing.{Waiting, asks_names, is_dropped, next_of, piece_by, rest_by, rest_of}
use Rattle.driver.specs.Queueing.{Drop, End, Go, Hand, Join, Open, OpeningGoesFirst, Queue, Turn, at_last, behind, nothing_queued, opened_at, opened_in, opened_out, opening_of, piece_in}
use Rattle.driver.proofs.Queueing.{join_lines}

gone_opened : (due : Bool) (joins : List Joined) (joining : Option Joined) (said questions : List Parts)
    → opened_in (next_of due joins joining said questions) ++ (rest_of due joins joining said questions).opening ≡ []
gone_opened due (join ∷ joins) joining said questions = refl
gone_opened due [] (Some join) said questions = refl
gone_opened due [] None (line ∷ said) questions = refl
gone_opened false [] None [] questions = refl
gone_opened true [] None [] [] = refl
gone_opened true [] None [] (line ∷ questions) = refl

go_opened : (due : Bool) (opening : List Parts) (waiting : Waiting) → opened_in (piece_by due opening waiting) ++ (rest_by due opening waiting).opening ≡ opening
go_opened due [] waiting = gone_opened due waiting.joins waiting.joining waiting.said waiting.questions
go_opened due (line ∷ opening) waiting = refl

handed_opening : (asks dropped : Bool) (line : Parts) (waiting : Waiting)
    → (if asks then (if dropped then waiting else record waiting { questions = waiting.questions ++ line ∷ [] }) else record waiting { said = waiting.said ++ line ∷ [] }).opening
    ≡ waiting.opening
handed_opening true true line waiting = refl
handed_opening true false line waiting = refl
handed_opening false dropped line waiting = refl

handed_opening_if : (asks dropping dropped : Bool) (line : Parts) (waiting : Waiting)
    → (if dropping && not asks then waiting else (if asks then (if dropped then waiting else record waiting { questions = waiting.questions ++ line ∷ [] }) else record waiting { said = waiting.said ++ line ∷ [] })).opening
    ≡ waiting.opening
handed_opening_if asks false dropped line waiting = handed_opening asks dropped line waiting
handed_opening_if true true dropped line waiting = handed_opening true dropped line waiting
handed_opening_if false true dropped line waiting = refl

turn_opened : (turn : Turn) (queue : Queue) → opened_in (piece_in turn queue) ++ (behind turn queue).waiting.opening ≡ queue.waiting.opening ++ opening_of turn
turn_opened (Open lines) queue = refl
turn_opened (Hand line) queue =
    handed_opening_if (asks_names line) (is_some queue.dropping) (is_dropped line queue.waiting) line queue.waiting ∙ sym (append-nil queue.waiting.opening)
turn_opened (Join channel key) queue =
    let (said, questions, opening) = join_lines queue.waiting.joining channel key queue.waiting in opening ∙ sym (append-nil queue.waiting.opening)
turn_opened (Go due) queue = go_opened due queue.waiting.opening queue.waiting ∙ sym (append-nil queue.waiting.opening)
turn_opened Drop queue = sym (append-nil queue.waiting.opening)
turn_opened End queue = sym (append-nil queue.waiting.opening)

turns_opened : (turns : List Turn) (queue : Queue) → opened_out turns queue ++ (at_last turns queue).waiting.opening ≡ queue.waiting.opening ++ opened_at turns
unfolding opened_out at_last opened_at
turns_opened [] queue = sym (append-nil queue.waiting.opening)
turns_opened (turn ∷ turns) queue =
    let next = behind turn queue in
    let out = opened_in (piece_in turn queue) in
    append_assoc out (opened_out turns next) (at_last turns next).waiting.opening
    ∙ ap (λ (lines : List Parts). out ++ lines) (turns_opened turns next)
    ∙ sym (append_assoc out next.waiting.opening (opened_at turns))
    ∙ ap (λ (lines : List Parts). lines ++ opened_at turns) (turn_opened turn queue)
    ∙ append_assoc queue.waiting.opening (opening_of turn) (opened_at turns)

pub opening_first : OpeningGoesFirst
opening_first = record {
  order = λ turns. turns_opened turns nothing_queued;
  first = λ turns due line more is. ap (λ (opening : List Parts). piece_by due opening (at_last turns nothing_queued).waiting) is;
}
