-- Whether one text is another, line by line.
use Rattle.std.specs.Prelude.{ℕ, suc, ◌==◌, List, [], ◌∷◌, if◌then◌else◌}
use Rattle.irc_line.specs.Names.{same_bytes}
use Rattle.records.specs.declared.verdict.Verdict.{Verdict}
use Rattle.records.specs.declared.verdict.Verdict.TheVariants.{Same, Differs}

-- a byte before the first line
abbrev pub put_byte : ℕ → List (List ℕ) → List (List ℕ)
put_byte b [] = (b ∷ []) ∷ []
put_byte b (line ∷ lines) = (b ∷ line) ∷ lines

-- the lines of a text, each with its end; what follows the last end is a line too
abbrev pub lines_of : List ℕ → List (List ℕ)
lines_of [] = []
lines_of (b ∷ rest) = if b == 10 then (10 ∷ []) ∷ lines_of rest else put_byte b (lines_of rest)

-- the first line, the first being of this number, that is different, missing or extra
abbrev pub first_other : ℕ → List (List ℕ) → List (List ℕ) → Verdict
first_other number [] [] = Same
first_other number [] (line ∷ lines) = Differs number
first_other number (line ∷ lines) [] = Differs number
first_other number (line ∷ lines) (other ∷ others) = if same_bytes line other then first_other (suc number) lines others else Differs number

-- whether recorded lines are those of a run
unfoldable pub verdict : List ℕ → List ℕ → Verdict
verdict recorded run = first_other 1 (lines_of recorded) (lines_of run)
