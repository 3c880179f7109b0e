-- Texts that are split in two.
use Rattle.std.specs.Prelude.{ℕ, ◌==◌, List, [], ◌∷◌, Option, Some, None, if◌then◌else◌}

-- a split with this byte before the first part
abbrev pub put_first : ℕ → Option (List ℕ × List ℕ) → Option (List ℕ × List ℕ)
put_first b None = None
put_first b (Some parts) = Some (b ∷ parts.0, parts.1)

-- what comes before the first occurrence of this byte, and what follows it
abbrev pub split_at : ℕ → List ℕ → Option (List ℕ × List ℕ)
split_at mark [] = None
split_at mark (b ∷ rest) = if b == mark then Some ([], rest) else put_first b (split_at mark rest)
