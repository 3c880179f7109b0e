-- How bytes are compared with a spelling in place. Nothing here has to be trusted: `canonical` says what comes of it.
use Rattle.std.specs.Prelude.{ℕ, if◌then◌else◌, ◌==◌, List, [], ◌∷◌, map, Option, Some, None}
use Rattle.irc_line.specs.Lines.{spelled_parameters}
use Rattle.irc_line.specs.Grammar.{upper}
use Rattle.irc_line.specs.Reading.{parameters_of}

-- what follows a front, if the bytes begin with it
abbrev pub behind : List ℕ → List ℕ → Option (List ℕ)
behind [] bytes = Some bytes
behind (x ∷ front) [] = None
behind (x ∷ front) (y ∷ bytes) = if x == y then behind front bytes else None

-- the canonical spelling of these parameters after a command in any letters
abbrev pub spelled_behind : List ℕ → List (List ℕ) → List ℕ
spelled_behind word parameters = spelled_parameters (map upper word) parameters

-- the canonical spelling of the parameters in a text after a command in any letters
abbrev pub spelled_tail : List ℕ → List ℕ → List ℕ
spelled_tail word text = spelled_behind word (parameters_of text)
