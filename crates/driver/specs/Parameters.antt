-- Parts of a line from the server that people are shown.
use Rattle.std.specs.Prelude.{ℕ, ◌-◌, codes, length, List, [], ◌∷◌}
use Rattle.irc_line.specs.Lines.{Parts, parameter}

-- the last parameter of a line; empty if there is none
abbrev pub last_parameter : Parts → List ℕ
last_parameter line = parameter (length line.parameters - 1) line

-- this nick, or the server if it is empty
abbrev pub nick_or_server : List ℕ → List ℕ
nick_or_server [] = codes "the server"
nick_or_server (byte ∷ nick) = byte ∷ nick
