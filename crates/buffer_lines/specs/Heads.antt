-- What comes before the text of a line of two parameters.
use Rattle.std.specs.Prelude.{ℕ, List, [], ◌∷◌, ◌++◌, Option}
use Rattle.irc_line.specs.Lines.{spelled_prefix}

-- a line up to its second parameter, which is a trailing one
abbrev pub head : Option (List ℕ) → List ℕ → List ℕ → List ℕ
head prefix command target = spelled_prefix prefix ++ command ++ (32 ∷ target) ++ 32 ∷ 58 ∷ []
