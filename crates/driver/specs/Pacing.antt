-- How often lines may go, and how long the waits after failures are.
use Rattle.std.specs.Prelude.{◌≡◌, ◌≤◌, ◌+◌, ◌*◌, ◌&&◌, ◌++◌, ℕ, pred, Bool, nat_le, nat_lt, max, min, if◌then◌else◌, List, [], ◌∷◌, length}
use Rattle.driver.specs.declared.pace.TheConstants.{LAST}

-- a line may go at this moment, given the burst, how long a line takes, and when the full burst is available again
abbrev pub may_go : ℕ → ℕ → ℕ → ℕ → Bool
may_go burst line free now = nat_lt now LAST && nat_le free (now + pred burst * line)

-- when the full burst is available again, after a line that goes at this moment, if it may
abbrev pub free_after : ℕ → ℕ → ℕ → ℕ → ℕ
free_after burst line free now = if may_go burst line free now then max free now + line else free

-- when the full burst is available again, after lines that were to go at these moments
abbrev pub free_behind : ℕ → ℕ → ℕ → List ℕ → ℕ
free_behind burst line free [] = free
free_behind burst line free (now ∷ later) = free_behind burst line (free_after burst line free now) later

-- which of these moments a line went at
abbrev pub gone : ℕ → ℕ → ℕ → List ℕ → List ℕ
gone burst line free [] = []
gone burst line free (now ∷ later) =
    if may_go burst line free now
    then now ∷ gone burst line (free_after burst line free now) later
    else gone burst line (free_after burst line free now) later

-- twice as long, up to a limit
abbrev pub doubled : ℕ → ℕ → ℕ
doubled most wait = min (wait * 2) most

-- For any run of lines that went, from one at the first moment to one at the last: there are no more than the burst,
-- and one more for each time that a line takes between the two moments.
abbrev pub IsPaced : Type 0
IsPaced =
    (burst line : ℕ) (moments before between after : List ℕ) (first last : ℕ)
    → 1 ≤ burst
    → gone burst line 0 moments ≡ before ++ first ∷ (between ++ last ∷ after)
    → first + (length between + 2) * line ≤ last + burst * line
