-- The time of day of a kept line, and where it is in the line.
use Rattle.std.specs.Prelude.{ℕ, ◌+◌, ◌*◌, ◌/◌, ◌%◌, if◌then◌else◌, List, [], ◌∷◌, ◌++◌, drop, codes, map, refl}
use Rattle.std.specs.Coded.{Coded, code_by, coded×, coded_list, coded_ℕ}
use Rattle.circular_buffer.specs.Buffer.{keep_last}
use Rattle.irc_line.specs.Lines.{Parts, line_of, parameter, parts_code, spelling}
use Rattle.irc_line.specs.Names.{action_mark, begins_with}

-- a number below 100 in two digits
abbrev pub two_digits : ℕ → List ℕ
two_digits n = (48 + n / 10) ∷ (48 + n % 10) ∷ []

-- `[HH:MM:SS] ` of a second of the day
abbrev pub stamp : ℕ → List ℕ
stamp second =
    91 ∷ (two_digits (second / 3600) ++ (58 ∷ two_digits (second / 60 % 60)) ++ (58 ∷ two_digits (second % 60)) ++ (93 ∷ 32 ∷ []))

-- the second of the day at a moment; the offset is given in minutes, with 1,439 added
abbrev pub second_of_day : ℕ → ℕ → ℕ
second_of_day offset moment = (moment + 60 * (offset + 1)) % 86400

-- the text with the time before it, in an ACTION after its mark
unfoldable pub stamped : ℕ → ℕ → List ℕ → List ℕ
stamped offset moment text =
    if begins_with text action_mark
    then action_mark ++ stamp (second_of_day offset moment) ++ drop 8 text
    else stamp (second_of_day offset moment) ++ text

-- a kept line with its time
unfoldable pub timed : ℕ → ℕ × Parts → Parts
timed offset k =
    record (k.1) { parameters = parameter 0 (k.1) ∷ stamped offset k.0 (parameter 1 (k.1)) ∷ [] }

-- a line before or after a playback
abbrev pub frame : List ℕ → List ℕ → Parts
frame target text = line_of (codes "***!bouncer@local") (codes "PRIVMSG") (target ∷ text ∷ [])

-- the kept lines with their times, between the two frame lines
abbrev pub framed : ℕ → List ℕ → List (ℕ × Parts) → List Parts
framed offset target [] = []
framed offset target (k ∷ ks) =
    frame target (codes "Buffer Playback...") ∷ (map (timed offset) (k ∷ ks) ++ frame target (codes "Playback Complete.") ∷ [])

-- the last lines of a target, the oldest first, and how many there may be
pub record Ring : Type 0 where
  pub lines : List (ℕ × Parts)
  pub size : ℕ

-- the ring of these lines and this size
abbrev pub ring : List (ℕ × Parts) → ℕ → Ring
ring lines size = record { lines = lines; size = size }

-- a line with its moment is stored as a pair
abbrev pub line_code : Coded (ℕ × Parts)
line_code = coded× coded_ℕ parts_code

-- and a ring as the pair of its fields
abbrev pub ring_code : Coded Ring
ring_code = code_by (List (ℕ × Parts) × ℕ) (coded× (coded_list line_code) coded_ℕ) (λ r. (r.lines, r.size)) (λ p. ring p.0 p.1) (λ _. refl)

-- a ring of another size, which keeps its last lines
abbrev pub of_size : ℕ → Ring → Ring
of_size size r = ring (keep_last size r.lines) size

-- a ring with one more line, which keeps its last lines
abbrev pub with_line : ℕ × Parts → Ring → Ring
with_line line r = ring (keep_last r.size (r.lines ++ line ∷ [])) r.size

-- what is shown of lines that are played
abbrev pub shown_timed : ℕ → List (ℕ × Parts) → List (List ℕ)
shown_timed offset ks = map (λ k. spelling (timed offset k)) ks

-- what is shown of a playback
abbrev pub shown_framed : ℕ → List ℕ → List (ℕ × Parts) → List (List ℕ)
shown_framed offset target ks = map spelling (framed offset target ks)
