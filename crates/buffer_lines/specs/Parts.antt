-- The parts of a text, one after the other.
use Rattle.std.specs.Prelude.{ℕ, ◌+◌, List, [], ◌∷◌, drop, take}

-- the parts of these lengths
abbrev pub parts : List ℕ → List ℕ → List (List ℕ)
parts text [] = []
parts text (n ∷ lengths) = take n text ∷ parts (drop n text) lengths

-- their total length
abbrev pub total : List ℕ → ℕ
total [] = 0
total (n ∷ lengths) = n + total lengths
