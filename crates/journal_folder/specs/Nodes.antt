-- The nodes that a group may have.
use Rattle.std.specs.Prelude.{◌≡◌, ℕ, List, [], ◌∷◌, map}
use Rattle.journal_folder.specs.declared.locking.FolderLocks.{FolderLocks}

-- each of them, node 1 first
abbrev pub all_nodes : List ℕ
all_nodes = 1 ∷ 2 ∷ 3 ∷ 4 ∷ 5 ∷ 6 ∷ 7 ∷ []

-- a lock was requested for the journal of each node, in a folder and in the renewed one beside it
abbrev pub AreOfAllNodes : FolderLocks → Type 0
AreOfAllNodes locks = (map (λ lock. lock.node) locks.old.items ≡ all_nodes) × (map (λ lock. lock.node) locks.renewed.items ≡ all_nodes)
