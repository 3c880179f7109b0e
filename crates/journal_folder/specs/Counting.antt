-- What the journals of a group show: which log counts, and the greatest numbers so far.
use Rattle.std.specs.Prelude.{◌≡◌, ◌⊎◌, ℕ, zero, suc, max, IsTrue, List, [], ◌∷◌, drop, length}
use Rattle.bouncer_tower.specs.Bodies.{TowerBody}
use Rattle.raft_log.specs.Logs.{last_term, up_to_date}
use Rattle.stable_store.specs.declared.saved.Saved.{Saved}
use Rattle.journal_folder.specs.Runs.{greatest_boot}
use Rattle.wire_bytes.specs.declared.limits.TheConstants.{MOST_NODES}

module _ {B : Type 0} where
  -- the log of the first is at least as up to date as that of the second, as a voter compares them
  abbrev pub IsAsUpToDate : Saved B → Saved B → Type 0
  IsAsUpToDate first second = IsTrue (up_to_date (last_term first.log) (length first.log) (last_term second.log) (length second.log))

  -- no log among these is more up to date
  abbrev pub IsMostUpToDate : Saved B → List (Saved B) → Type 0
  IsMostUpToDate chosen [] = Unit {0}
  IsMostUpToDate chosen (saved ∷ group) = IsAsUpToDate chosen saved × IsMostUpToDate chosen group

  -- it is one of these
  abbrev pub IsOneOf : Saved B → List (Saved B) → Type 0
  IsOneOf chosen [] = ⊥
  IsOneOf chosen (saved ∷ group) = (chosen ≡ saved) ⊎ IsOneOf chosen group

  -- the greatest term of a group
  abbrev pub greatest_term : List (Saved B) → ℕ
  greatest_term [] = 0
  greatest_term (saved ∷ group) = max saved.term (greatest_term group)

  -- how many entries the longest log of a group has
  abbrev pub most_entries : List (Saved B) → ℕ
  most_entries [] = 0
  most_entries (saved ∷ group) = max (length saved.log) (most_entries group)

-- the greatest boot of a node that logs of a group mention
abbrev pub boot_told : ℕ → List (Saved TowerBody) → ℕ
boot_told node [] = 0
boot_told node (saved ∷ group) = max (greatest_boot node saved.log) (boot_told node group)

-- the runs so far according to the first of these stores, 0 if there is none
abbrev pub own_boot : List (Saved TowerBody) → ℕ
own_boot [] = 0
own_boot (own ∷ others) = own.boot

-- for each of this many nodes, the first of which is this one and has the first of these stores, as far as there are
-- any: the greatest boot that its own store or a log of the group mentions
abbrev pub greatest_boots : ℕ → ℕ → List (Saved TowerBody) → List (Saved TowerBody) → List ℕ
greatest_boots node zero owns group = []
greatest_boots node (suc nodes) owns group = max (own_boot owns) (boot_told node group) ∷ greatest_boots (suc node) nodes (drop 1 owns) group

-- for each node that a group may have, the greatest boot that its own store or a log of this group mentions
abbrev pub all_boots : List (Saved TowerBody) → List ℕ
all_boots group = greatest_boots 1 MOST_NODES group group
