-- Words between separators.
use Rattle.std.specs.Prelude.{ℕ, Bool, not, ◌==◌, if◌then◌else◌, List, [], ◌∷◌, length, filter, Option, Some, None}

-- a byte before the first piece
abbrev pub before_first : ℕ → List (List ℕ) → List (List ℕ)
before_first b [] = (b ∷ []) ∷ []
before_first b (piece ∷ pieces) = (b ∷ piece) ∷ pieces

-- what is between separators: one piece more than there are separators, some of them empty
abbrev pub pieces : ℕ → List ℕ → List (List ℕ)
pieces separator [] = [] ∷ []
pieces separator (b ∷ s) = if b == separator then [] ∷ pieces separator s else before_first b (pieces separator s)

-- a word that is not empty
abbrev pub is_some_word : List ℕ → Bool
is_some_word word = not (length word == 0)

-- the words between spaces
abbrev pub words : List ℕ → List (List ℕ)
words text = filter is_some_word (pieces 32 text)

-- a word that passes a test
abbrev pub passed_by : (List ℕ → Bool) → List ℕ → Option (List ℕ)
passed_by test word = if test word then Some word else None
