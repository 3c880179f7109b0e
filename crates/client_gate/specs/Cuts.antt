-- Bytes that are cut at a separator.
use Rattle.std.specs.Prelude.{◌≡◌, ℕ, true, not, ◌==◌, List, ◌∷◌, ◌++◌}
use Rattle.std.specs.List.{list_all}

-- they contain no separator
abbrev pub HasNone : ℕ → List ℕ → Type 0
HasNone separator s = list_all (λ b. not (b == separator)) s ≡ true

-- these bytes come before the first separator and after it
abbrev pub IsCutAt : ℕ → List ℕ → List ℕ → List ℕ → Type 0
IsCutAt separator bytes piece behind = HasNone separator piece × (bytes ≡ piece ++ separator ∷ behind)
