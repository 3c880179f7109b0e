-- What is written to the upstream server: each line in its canonical encoding, with CR LF (RFC 2812, 3.1 and 3.7).
use Rattle.std.specs.Prelude.{ℕ, List, [], ◌∷◌, ◌++◌, Option, Some, None, codes}
use Rattle.irc_line.specs.Lines.{parts, spelling}

-- a command with these parameters, as it is written
unfoldable pub sent : List ℕ → List (List ℕ) → List ℕ
sent command parameters = spelling (parts None command parameters) ++ 13 ∷ 10 ∷ []

-- a nick is asked for
abbrev pub nick_line : List ℕ → List ℕ
nick_line nick = sent (codes "NICK") (nick ∷ [])

-- the user's name is the nick, and so is the real name
abbrev pub user_line : List ℕ → List ℕ
user_line nick = sent (codes "USER") (nick ∷ codes "0" ∷ codes "*" ∷ nick ∷ [])

-- the password, if there is one
abbrev pub password_line : Option (List ℕ) → List ℕ
password_line None = []
password_line (Some password) = sent (codes "PASS") (password ∷ [])

-- what is written before anything is heard
abbrev pub first_bytes : List ℕ → Option (List ℕ) → List ℕ
first_bytes nick password = password_line password ++ nick_line nick ++ user_line nick

-- the answer to a PING with these parameters: its first one is given back, and without one there is no answer
abbrev pub pong : List (List ℕ) → List ℕ
pong [] = []
pong (token ∷ more) = sent (codes "PONG") (token ∷ [])
