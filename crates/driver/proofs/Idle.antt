-- If nothing goes out, what waits is unchanged.
use Rattle.std.proofs.Common.{◌≡◌, Bool, true, false, List, [], ◌∷◌, Option, Some, None, refl}
use Rattle.irc_line.specs.Lines.{Parts}
use Rattle.driver.specs.declared.outgoing.Piece.{Piece}
use Rattle.driver.specs.Joining.{Joined}
use Rattle.driver.specs.Outgoing.{Waiting, next_line, next_of, next_piece, piece_by, rest_by, rest_lines, rest_of, without_next}
use Rattle.driver.specs.Writing.{piece_at}

lines_left : (due : Bool) (said questions : List Parts) → next_line due said questions ≡ None
    → rest_lines due said questions ≡ record { opening = []; joins = []; joining = None; said = said; questions = questions }
lines_left due (line ∷ said) questions e = absurd (cc e)
lines_left true [] (question ∷ questions) e = absurd (cc e)
lines_left true [] [] e = refl
lines_left false [] questions e = refl

joins_left : (due : Bool) (joins : List Joined) (joining : Option Joined) (said questions : List Parts) → next_of due joins joining said questions ≡ None
    → rest_of due joins joining said questions ≡ record { opening = []; joins = joins; joining = joining; said = said; questions = questions }
joins_left due (line ∷ joins) joining said questions e = absurd (cc e)
joins_left due [] (Some line) said questions e = absurd (cc e)
joins_left due [] None said questions e = lines_left due said questions e

opening_left : (due : Bool) (opening : List Parts) (waiting : Waiting) → piece_by due opening waiting ≡ None → rest_by due opening waiting ≡ record waiting { opening = opening }
opening_left due (line ∷ opening) waiting e = absurd (cc e)
opening_left due [] waiting e = joins_left due waiting.joins waiting.joining waiting.said waiting.questions e

pub nothing_left : (due : Bool) (waiting : Waiting) → next_piece due waiting ≡ None → without_next due waiting ≡ waiting
nothing_left due waiting e = opening_left due waiting.opening waiting e

pub nothing_goes : (may due : Bool) (waiting : Waiting) → next_piece due waiting ≡ None → piece_at may due waiting ≡ None
nothing_goes true due waiting e = e
nothing_goes false due waiting e = refl
