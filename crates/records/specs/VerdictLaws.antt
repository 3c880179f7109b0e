-- What a verdict says.
use Rattle.std.specs.Prelude.{◌≡◌, ◌≢◌, ◌↔◌, ℕ, ◌-◌, ◌≤◌, List, take, slice_get}
use Rattle.records.specs.declared.verdict.Verdict.TheVariants.{Same, Differs}
use Rattle.records.specs.Verdicts.{lines_of, verdict}

-- the same lines are one text
abbrev pub SameIsEqual : Type 0
SameIsEqual = (recorded run : List ℕ) → (verdict recorded run ≡ Same) ↔ (recorded ≡ run)

-- the lines before this one are the same, and this one differs, or one of the texts has none
pub record IsFirstOther (line : ℕ) (recorded run : List (List ℕ)) : Type 0 where
  pub from_1 : 1 ≤ line
  pub before : take (line - 1) recorded ≡ take (line - 1) run
  pub here : slice_get recorded (line - 1) ≢ slice_get run (line - 1)

-- the line that is reported is the first that differs
abbrev pub DiffersIsFirst : Type 0
DiffersIsFirst = (recorded run : List ℕ) (line : ℕ) → verdict recorded run ≡ Differs line → IsFirstOther line (lines_of recorded) (lines_of run)
