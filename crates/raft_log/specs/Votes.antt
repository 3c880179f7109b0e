-- Majorities, and what they commit.
use Rattle.std.specs.Prelude.{ℕ, zero, suc, ◌+◌, Bool, true, false, ◌&&◌, List, [], ◌∷◌, map, nat_lt, nat_le, if◌then◌else◌}
use Rattle.raft_log.specs.declared.entry.Entry.{Entry}
use Rattle.raft_log.specs.Logs.{has_term}

-- how many nodes a set has; a set says for each node whether it is in it
abbrev pub tally : List Bool → ℕ
tally [] = 0
tally (true ∷ set) = suc (tally set)
tally (false ∷ set) = tally set

-- more than half of the nodes
abbrev pub majority : ℕ → List Bool → Bool
majority size set = nat_lt size (tally set + tally set)

module _ {B : Type 0} where
  -- there is an entry at this index, it has this term, and a majority has it
  abbrev pub commits : ℕ → List ℕ → List (Entry B) → ℕ → ℕ → Bool
  commits size matches log t k = majority size (map (λ m. nat_le k m) matches) && has_term log t k

  -- the largest index up to k, above the commit, that commits; else the commit
  abbrev pub commit_place : ℕ → List ℕ → List (Entry B) → ℕ → ℕ → ℕ → ℕ
  commit_place size matches log t c zero = c
  commit_place size matches log t c (suc k) =
      if nat_lt c (suc k) && commits size matches log t (suc k) then suc k else commit_place size matches log t c k
