-- What holds of a repair, by the comparison of entries.
use Rattle.std.specs.Prelude.{◌≡◌, ◌+◌, ◌-◌, ◌≤◌, ℕ, suc, true, false, List, ◌++◌, length, take, drop}
use Rattle.raft_log.specs.declared.entry.Entry.{Entry}
use Rattle.raft_log.specs.Logs.{conflicts_within, repair}

module _ {B : Type 0} where
  -- if no entry conflicts with the log, the missing ones are added and nothing else changes
  abbrev pub AddsMissing : List (Entry B) → ℕ → List (Entry B) → Type 0
  AddsMissing log prev entries =
      prev ≤ length log → conflicts_within (drop prev log) entries (length entries) ≡ false → repair log prev entries ≡ log ++ drop (length log - prev) entries

  -- the first entry that conflicts, after k that do not, is removed with all that follow it, and the rest of the
  -- entries takes their place
  abbrev pub CutsFirstConflict : List (Entry B) → ℕ → ℕ → List (Entry B) → Type 0
  CutsFirstConflict log prev k entries =
      prev ≤ length log → conflicts_within (drop prev log) entries k ≡ false → conflicts_within (drop prev log) entries (suc k) ≡ true
      → repair log prev entries ≡ take (prev + k) log ++ drop k entries

  -- the log up to an index is unchanged, if no entry conflicts up to it
  abbrev pub KeepsBeforeConflict : List (Entry B) → ℕ → ℕ → List (Entry B) → Type 0
  KeepsBeforeConflict log prev k entries =
      prev ≤ length log → k ≤ length log → conflicts_within (drop prev log) entries (k - prev) ≡ false → take k (repair log prev entries) ≡ take k log
