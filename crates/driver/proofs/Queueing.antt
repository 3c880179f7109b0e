-- The order in which lines go to the server in a session.
use Rattle.std.proofs.Common.{◌≡◌, ◌∙◌, ◌++◌, ℕ, Bool, true, false, not, List, [], ◌∷◌, Option, Some, None, refl, sym, ap, subst, inl, inr}
use Rattle.std.specs.Prelude.{◌||◌, ◌&&◌, if◌then◌else◌, is_some}
use Rattle.std.specs.List.{list_any}
use Rattle.std.proofs.lemmas.List.{append_assoc, append-nil}
use Rattle.std.proofs.lemmas.List.Folds.{list_any-append}
use Rattle.irc_line.specs.Lines.{Parts}
use Rattle.driver.specs.Joining.{Joined, fits_in, no_channels, with_channel}
use Rattle.driver.specs.Outgoing.{Waiting, asks_names, is_dropped, join_by, next_of, piece_by, rest_by, rest_of}
use Rattle.driver.specs.Queueing.{Drop, End, Go, Hand, IsMerged, Join, Open, Queue, SaidGoInOrder, Turn, at_last, behind, dropped_by, handed_in, is_drop, nothing_queued, piece_in, said_dropped, said_handed, said_in, said_out}

-- a line does not ask who is in a channel
abbrev is_other : Parts → Bool
is_other line = not (asks_names line)

-- no waiting question is among said lines, and nothing else is among the questions
pub record Sorted (waiting : Waiting) : Type 0 where
  pub said : list_any asks_names waiting.said ≡ false
  pub questions : list_any is_other waiting.questions ≡ false

-- and while a drop goes on no said line waits
pub record Fine (queue : Queue) : Type 0 where
  pub sorted : Sorted queue.waiting
  pub empty : is_some queue.dropping ≡ true → queue.waiting.said ≡ []

pub first_none : (a b : Bool) → (a || b) ≡ false → a ≡ false
first_none true b is = is
first_none false b is = refl

pub rest_none : (a b : Bool) → (a || b) ≡ false → b ≡ false
rest_none true b is = absurd (cc is)
rest_none false b is = is

shown : (b : Bool) → not b ≡ false → b ≡ true
shown true is = refl
shown false is = sym is

none_more : (test : Parts → Bool) (lines : List Parts) (line : Parts) → list_any test lines ≡ false → test line ≡ false → list_any test (lines ++ line ∷ []) ≡ false
none_more test lines line none last =
    list_any-append test lines (line ∷ []) ∙ ap (λ (b : Bool). b || (test line || false)) none ∙ ap (λ (b : Bool). b || false) last

-- A line is handed out.

handed_said : (asks dropped : Bool) (line : Parts) (waiting : Waiting)
    → (if asks then (if dropped then waiting else record waiting { questions = waiting.questions ++ line ∷ [] }) else record waiting { said = waiting.said ++ line ∷ [] }).said
    ≡ waiting.said ++ (if asks then [] else line ∷ [])
handed_said true true line waiting = sym (append-nil waiting.said)
handed_said true false line waiting = sym (append-nil waiting.said)
handed_said false dropped line waiting = refl

handed_sorted : (asks dropped : Bool) (line : Parts) (waiting : Waiting) → asks_names line ≡ asks → Sorted waiting
    → Sorted (if asks then (if dropped then waiting else record waiting { questions = waiting.questions ++ line ∷ [] }) else record waiting { said = waiting.said ++ line ∷ [] })
handed_sorted true true line waiting is sorted = sorted
handed_sorted true false line waiting is sorted = record {
  said = sorted.said;
  questions = none_more is_other waiting.questions line sorted.questions (ap not is);
}
handed_sorted false dropped line waiting is sorted = record {
  said = none_more asks_names waiting.said line sorted.said is;
  questions = sorted.questions;
}

-- A channel is joined.

joined_lines : (fits : Bool) (last one more : Joined) (waiting : Waiting)
    → ((if fits then record waiting { joining = Some one } else record waiting { joins = waiting.joins ++ last ∷ []; joining = Some more }).said ≡ waiting.said)
    × ((if fits then record waiting { joining = Some one } else record waiting { joins = waiting.joins ++ last ∷ []; joining = Some more }).questions ≡ waiting.questions)
    × ((if fits then record waiting { joining = Some one } else record waiting { joins = waiting.joins ++ last ∷ []; joining = Some more }).opening ≡ waiting.opening)
joined_lines true last one more waiting = (refl, refl, refl)
joined_lines false last one more waiting = (refl, refl, refl)

pub join_lines : (joining : Option Joined) (channel key : List ℕ) (waiting : Waiting)
    → ((join_by joining channel key waiting).said ≡ waiting.said)
    × ((join_by joining channel key waiting).questions ≡ waiting.questions)
    × ((join_by joining channel key waiting).opening ≡ waiting.opening)
join_lines None channel key waiting = (refl, refl, refl)
join_lines (Some line) channel key waiting =
    joined_lines (fits_in line channel key) line (with_channel channel key line) (with_channel channel key no_channels) waiting

-- What goes next goes out.

gone_said : (due : Bool) (joins : List Joined) (joining : Option Joined) (said questions : List Parts) → list_any asks_names said ≡ false → list_any is_other questions ≡ false
    → said_in (next_of due joins joining said questions) ++ (rest_of due joins joining said questions).said ≡ said
gone_said due (join ∷ joins) joining said questions none others = refl
gone_said due [] (Some join) said questions none others = refl
gone_said due [] None (line ∷ said) questions none others =
    ap (λ (asks : Bool). (if asks then [] else line ∷ []) ++ said) (first_none (asks_names line) (list_any asks_names said) none)
gone_said false [] None [] questions none others = refl
gone_said true [] None [] [] none others = refl
gone_said true [] None [] (line ∷ questions) none others =
    ap (λ (asks : Bool). (if asks then [] else line ∷ []) ++ []) (shown (asks_names line) (first_none (is_other line) (list_any is_other questions) others))

gone_sorted : (due : Bool) (joins : List Joined) (joining : Option Joined) (said questions : List Parts) → list_any asks_names said ≡ false → list_any is_other questions ≡ false
    → Sorted (rest_of due joins joining said questions)
gone_sorted due (join ∷ joins) joining said questions none others = record { said = none; questions = others }
gone_sorted due [] (Some join) said questions none others = record { said = none; questions = others }
gone_sorted due [] None (line ∷ said) questions none others =
    record { said = rest_none (asks_names line) (list_any asks_names said) none; questions = others }
gone_sorted false [] None [] questions none others = record { said = refl; questions = others }
gone_sorted true [] None [] [] none others = record { said = refl; questions = refl }
gone_sorted true [] None [] (line ∷ questions) none others =
    record { said = refl; questions = rest_none (is_other line) (list_any is_other questions) others }

go_said : (due : Bool) (opening : List Parts) (waiting : Waiting) → Sorted waiting
    → said_in (piece_by due opening waiting) ++ (rest_by due opening waiting).said ≡ waiting.said
go_said due [] waiting sorted = gone_said due waiting.joins waiting.joining waiting.said waiting.questions sorted.said sorted.questions
go_said due (line ∷ opening) waiting sorted = refl

go_sorted : (due : Bool) (opening : List Parts) (waiting : Waiting) → Sorted waiting → Sorted (rest_by due opening waiting)
go_sorted due [] waiting sorted = gone_sorted due waiting.joins waiting.joining waiting.said waiting.questions sorted.said sorted.questions
go_sorted due (line ∷ opening) waiting sorted = record { said = sorted.said; questions = sorted.questions }

-- Lines of two others.

pub merged_left : (lines ones others all : List Parts) → IsMerged ones others all → IsMerged (lines ++ ones) others (lines ++ all)
unfolding IsMerged
merged_left [] ones others all merged = merged
merged_left (line ∷ lines) ones others all merged = inl (lines ++ ones, refl, merged_left lines ones others all merged)

pub merged_right : (lines ones others all : List Parts) → IsMerged ones others all → IsMerged ones (lines ++ others) (lines ++ all)
unfolding IsMerged
merged_right [] ones others all merged = merged
merged_right (line ∷ lines) ones others all merged = inr (lines ++ others, refl, merged_right lines ones others all merged)

merged_none : IsMerged [] [] []
unfolding IsMerged
merged_none = (refl, refl)

-- if none are from the second, all are from the first
pub merged_one : (ones all : List Parts) → IsMerged ones [] all → ones ≡ all
unfolding IsMerged
merged_one ones [] (none, others) = none
merged_one ones (line ∷ all) (inl (more, is, merged)) = is ∙ ap (λ (lines : List Parts). line ∷ lines) (merged_one more all merged)
merged_one ones (line ∷ all) (inr (more, is, merged)) = absurd (cc is)

-- Turns.

-- a line that is handed out is dropped, or not
handed_waits : (asks dropping dropped : Bool) (line : Parts) (waiting : Waiting)
    → (if dropping && not asks then waiting else (if asks then (if dropped then waiting else record waiting { questions = waiting.questions ++ line ∷ [] }) else record waiting { said = waiting.said ++ line ∷ [] })).said
    ≡ waiting.said ++ (if dropping && not asks then [] else (if asks then [] else line ∷ []))
handed_waits asks false dropped line waiting = handed_said asks dropped line waiting
handed_waits true true dropped line waiting = handed_said true dropped line waiting
handed_waits false true dropped line waiting = sym (append-nil waiting.said)

handed_fine : (asks dropping dropped : Bool) (line : Parts) (waiting : Waiting) → asks_names line ≡ asks → Sorted waiting
    → Sorted (if dropping && not asks then waiting else (if asks then (if dropped then waiting else record waiting { questions = waiting.questions ++ line ∷ [] }) else record waiting { said = waiting.said ++ line ∷ [] }))
handed_fine asks false dropped line waiting is sorted = handed_sorted asks dropped line waiting is sorted
handed_fine true true dropped line waiting is sorted = handed_sorted true dropped line waiting is sorted
handed_fine false true dropped line waiting is sorted = sorted

-- the said lines that wait are what goes out, and what waits after that
pub go_out : (due : Bool) (queue : Queue) → Fine queue → said_in (piece_in (Go due) queue) ++ (behind (Go due) queue).waiting.said ≡ queue.waiting.said
go_out due queue fine = go_said due queue.waiting.opening queue.waiting fine.sorted

rest_empty : (first rest : List Parts) → first ++ rest ≡ [] → rest ≡ []
rest_empty [] rest is = is
rest_empty (line ∷ first) rest is = absurd (cc is)

hand_empty : (asks dropped : Bool) (dropping : Option ℕ) (line : Parts) (waiting : Waiting) (count : Option ℕ) → (is_some dropping ≡ true → waiting.said ≡ [])
    → is_some (if is_some dropping && not asks then count else dropping) ≡ true
    → (if is_some dropping && not asks then waiting else (if asks then (if dropped then waiting else record waiting { questions = waiting.questions ++ line ∷ [] }) else record waiting { said = waiting.said ++ line ∷ [] })).said ≡ []
hand_empty asks dropped None line waiting count empty goes = absurd (cc goes)
hand_empty true true (Some n) line waiting count empty goes = empty goes
hand_empty true false (Some n) line waiting count empty goes = empty goes
hand_empty false dropped (Some n) line waiting count empty goes = empty refl

pub turn_fine : (turn : Turn) (queue : Queue) → Fine queue → Fine (behind turn queue)
turn_fine (Open lines) queue fine =
    record { sorted = record { said = fine.sorted.said; questions = fine.sorted.questions }; empty = fine.empty }
turn_fine (Hand line) queue fine = record {
  sorted = handed_fine (asks_names line) (is_some queue.dropping) (is_dropped line queue.waiting) line queue.waiting refl fine.sorted;
  empty = hand_empty (asks_names line) (is_dropped line queue.waiting) queue.dropping line queue.waiting _ fine.empty;
}
turn_fine (Join channel key) queue fine =
    let (said, questions, opening) = join_lines queue.waiting.joining channel key queue.waiting in
    record {
      sorted = record { said = ap (list_any asks_names) said ∙ fine.sorted.said; questions = ap (list_any is_other) questions ∙ fine.sorted.questions };
      empty = λ goes. said ∙ fine.empty goes;
    }
turn_fine (Go due) queue fine = record {
  sorted = go_sorted due queue.waiting.opening queue.waiting fine.sorted;
  empty = λ goes. rest_empty (said_in (piece_in (Go due) queue)) (behind (Go due) queue).waiting.said (go_out due queue fine ∙ fine.empty goes);
}
turn_fine Drop queue fine = record { sorted = record { said = refl; questions = fine.sorted.questions }; empty = λ goes. refl }
turn_fine End queue fine = record { sorted = fine.sorted; empty = λ goes. absurd (cc goes) }

pub turns_fine : (turns : List Turn) (queue : Queue) → Fine queue → Fine (at_last turns queue)
unfolding at_last
turns_fine [] queue fine = fine
turns_fine (turn ∷ turns) queue fine = turns_fine turns (behind turn queue) (turn_fine turn queue fine)

pub nothing_fine : Fine nothing_queued
nothing_fine = record { sorted = record { said = refl; questions = refl }; empty = λ goes. refl }

same_said : (said handed ones others all : List Parts) → handed ≡ [] → IsMerged ones others (said ++ all) → IsMerged ones others (said ++ (handed ++ all))
same_said said handed ones others all none merged =
    subst (λ (handed : List Parts). IsMerged ones others (said ++ (handed ++ all))) (sym none) merged

-- a line is handed out: it waits after what waits, or it is dropped while nothing waits
hand_merged : (asks dropped : Bool) (dropping : Option ℕ) (line : Parts) (waiting : Waiting) (ones others all : List Parts) → (is_some dropping ≡ true → waiting.said ≡ [])
    → IsMerged ones others ((if is_some dropping && not asks then waiting else (if asks then (if dropped then waiting else record waiting { questions = waiting.questions ++ line ∷ [] }) else record waiting { said = waiting.said ++ line ∷ [] })).said ++ all)
    → IsMerged ones ((if is_some dropping && not asks then line ∷ [] else []) ++ others) (waiting.said ++ ((if asks then [] else line ∷ []) ++ all))
hand_merged true true None line waiting ones others all empty merged = merged
hand_merged true false None line waiting ones others all empty merged = merged
hand_merged false dropped None line waiting ones others all empty merged =
    subst (λ (lines : List Parts). IsMerged ones others lines) (append_assoc waiting.said (line ∷ []) all) merged
hand_merged true true (Some n) line waiting ones others all empty merged = merged
hand_merged true false (Some n) line waiting ones others all empty merged = merged
hand_merged false dropped (Some n) line waiting ones others all empty merged =
    let none : waiting.said ≡ [] = empty refl in
    subst (λ (said : List Parts). IsMerged ones (line ∷ others) (said ++ (line ∷ all))) (sym none)
    (merged_right (line ∷ []) ones others all (subst (λ (said : List Parts). IsMerged ones others (said ++ all)) none merged))

turn_merged : (turn : Turn) (queue : Queue) (ones others all : List Parts) → Fine queue → IsMerged ones others ((behind turn queue).waiting.said ++ all)
    → IsMerged (said_in (piece_in turn queue) ++ ones) (dropped_by turn queue ++ others) (queue.waiting.said ++ (handed_in turn ++ all))
turn_merged (Open lines) queue ones others all fine merged = merged
turn_merged (Hand line) queue ones others all fine merged =
    hand_merged (asks_names line) (is_dropped line queue.waiting) queue.dropping line queue.waiting ones others all fine.empty merged
turn_merged (Join channel key) queue ones others all fine merged =
    let (said, questions, opening) = join_lines queue.waiting.joining channel key queue.waiting in
    subst (λ (lines : List Parts). IsMerged ones others (lines ++ all)) said merged
turn_merged (Go due) queue ones others all fine merged =
    let out = said_in (piece_in (Go due) queue) in
    let rest = (behind (Go due) queue).waiting.said in
    let parts : out ++ (rest ++ all) ≡ queue.waiting.said ++ all =
    sym (append_assoc out rest all) ∙ ap (λ (lines : List Parts). lines ++ all) (go_out due queue fine)
    in
    subst (λ (lines : List Parts). IsMerged (out ++ ones) others lines) parts (merged_left out ones others (rest ++ all) merged)
turn_merged Drop queue ones others all fine merged = merged_right queue.waiting.said ones others all merged
turn_merged End queue ones others all fine merged = merged

nil_merged : (said : List Parts) → IsMerged said [] (said ++ [])
nil_merged said = subst (λ (lines : List Parts). IsMerged lines [] (said ++ [])) (append-nil said) (merged_left said [] [] [] merged_none)

pub turns_merged : (turns : List Turn) (queue : Queue) → Fine queue
    → IsMerged (said_out turns queue ++ (at_last turns queue).waiting.said) (said_dropped turns queue) (queue.waiting.said ++ said_handed turns)
unfolding said_out at_last said_handed said_dropped
turns_merged [] queue fine = nil_merged queue.waiting.said
turns_merged (turn ∷ turns) queue fine =
    let next = behind turn queue in
    let out = said_out turns next in
    let last = (at_last turns next).waiting.said in
    subst (λ (lines : List Parts). IsMerged lines (dropped_by turn queue ++ said_dropped turns next) (queue.waiting.said ++ (handed_in turn ++ said_handed turns)))
    (sym (append_assoc (said_in (piece_in turn queue)) out last))
    (turn_merged turn queue (out ++ last) (said_dropped turns next) (said_handed turns) fine (turns_merged turns next (turn_fine turn queue fine)))

-- If nobody says DROP WAITING.

hand_kept : (asks : Bool) (dropping count : Option ℕ) (line : Parts) → dropping ≡ None
    → ((if is_some dropping && not asks then count else dropping) ≡ None) × ((if is_some dropping && not asks then line ∷ [] else []) ≡ [])
hand_kept asks None count line none = (refl, refl)
hand_kept asks (Some n) count line none = absurd (cc none)

turn_kept : (turn : Turn) (queue : Queue) → is_drop turn ≡ false → queue.dropping ≡ None → ((behind turn queue).dropping ≡ None) × (dropped_by turn queue ≡ [])
turn_kept (Open lines) queue is none = (none, refl)
turn_kept (Hand line) queue is none = hand_kept (asks_names line) queue.dropping _ line none
turn_kept (Join channel key) queue is none = (none, refl)
turn_kept (Go due) queue is none = (none, refl)
turn_kept Drop queue is none = absurd (cc is)
turn_kept End queue is none = (refl, refl)

turns_kept : (turns : List Turn) (queue : Queue) → list_any is_drop turns ≡ false → queue.dropping ≡ None → said_dropped turns queue ≡ []
unfolding said_dropped
turns_kept [] queue are none = refl
turns_kept (turn ∷ turns) queue are none =
    let (still, dropped) = turn_kept turn queue (first_none (is_drop turn) (list_any is_drop turns) are) none in
    ap (λ (lines : List Parts). lines ++ said_dropped turns (behind turn queue)) dropped
    ∙ turns_kept turns (behind turn queue) (rest_none (is_drop turn) (list_any is_drop turns) are) still

-- all said lines go out, or wait
pub kept_said : (turns : List Turn) (queue : Queue) → Fine queue → list_any is_drop turns ≡ false → queue.dropping ≡ None
    → said_out turns queue ++ (at_last turns queue).waiting.said ≡ queue.waiting.said ++ said_handed turns
kept_said turns queue fine are none =
    let out = said_out turns queue ++ (at_last turns queue).waiting.said in
    merged_one out (queue.waiting.said ++ said_handed turns)
    (subst (λ (others : List Parts). IsMerged out others (queue.waiting.said ++ said_handed turns)) (turns_kept turns queue are none) (turns_merged turns queue fine))

pub said_in_order : SaidGoInOrder
said_in_order = record {
  all = λ turns. turns_merged turns nothing_queued nothing_fine;
  kept = λ turns are. kept_said turns nothing_queued nothing_fine are refl;
}
