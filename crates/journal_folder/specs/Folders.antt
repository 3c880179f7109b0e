-- The folders of the journals: one for all nodes, or one for each.
use Rattle.std.specs.Prelude.{ℕ, ◌-◌, if◌then◌else◌, nat_le, List, [], ◌∷◌}

-- the folder of this number, from 1, or the last
abbrev pub of_number : List ℕ → List (List ℕ) → ℕ → List ℕ
of_number first [] number = first
of_number first (next ∷ others) number = if nat_le number 1 then first else of_number next others (number - 1)

-- Node 1's folder is the first, and so on: a node for which there is none has its journal in the last. A single folder
-- is therefore that of all nodes
abbrev pub folder_of : List (List ℕ) → ℕ → List ℕ
folder_of [] node = []
folder_of (first ∷ others) node = of_number first others node
