-- Which of the lines that commands stored in one target are kept. Lists of commands have the newest first.
use Rattle.std.specs.Prelude.{ℕ, ◌+◌, Bool, true, false, not, ◌&&◌, nat_lt, List, [], ◌∷◌, ◌++◌, Option, Some, None, is_some}

-- a line that is stored, if it is kept
abbrev pub if_kept : {K : Type 0} → Bool → Option K → List K
if_kept b None = []
if_kept true (Some k) = k ∷ []
if_kept false (Some k) = []

-- 1 where this holds, else 0: how much a command adds to a count of lines
abbrev pub one_if : Bool → ℕ
one_if true = 1
one_if false = 0

-- for one target: the line that a command stores in it, whether a command empties it, and its size
module _ {X K : Type 0} (stored : List X → X → Option K) (emptied : List X → X → Bool) (size : List X → ℕ) where
  -- how many lines the later commands stored
  unfoldable pub stored_by : List X → List X → ℕ
  stored_by [] earlier = 0
  stored_by (x ∷ later) earlier = stored_by later earlier + one_if (is_some (stored (later ++ earlier) x))

  -- whether a line stored by the last of the earlier commands is kept after the later ones: none of them empties the
  -- target, and at each moment since then fewer lines were stored after it than the size at that moment
  unfoldable pub stays : List X → List X → Bool
  stays [] earlier = nat_lt 0 (size earlier)
  stays (x ∷ later) earlier =
      stays later earlier && not (emptied (later ++ earlier) x) && nat_lt (stored_by (x ∷ later) earlier) (size (x ∷ (later ++ earlier)))

  -- the lines stored by the earlier commands that are kept after the later ones, the oldest first
  unfoldable pub kept_since : List X → List X → List K
  kept_since later [] = []
  kept_since later (x ∷ earlier) = kept_since (later ++ x ∷ []) earlier ++ if_kept (stays later (x ∷ earlier)) (stored earlier x)

  -- the lines that are kept, the oldest first
  unfoldable pub kept : List X → List K
  kept commands = kept_since [] commands
