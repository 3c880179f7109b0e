-- What a gate writes, each line with CR LF.
use Rattle.std.specs.Prelude.{ℕ, ◌==◌, if◌then◌else◌, List, [], ◌∷◌, ◌++◌, length, take, codes}
use Rattle.irc_line.specs.Lines.{line_of, spelling}
use Rattle.irc_line.specs.Limits.{content_limit, name_limit}

-- a line as it is sent
abbrev pub with_end : List ℕ → List ℕ
with_end bytes = bytes ++ 13 ∷ 10 ∷ []

-- a line of the bouncer itself, in its canonical spelling
abbrev pub reply : List ℕ → List (List ℕ) → List ℕ
reply command parameters = with_end (spelling (line_of (codes "bouncer.local") command parameters))

-- a client of this nick is registered (RFC 2812, 5.1)
abbrev pub welcome : List ℕ → List ℕ
welcome nick = reply (codes "001") (nick ∷ codes "Welcome to the bouncer" ∷ [])

-- a command that comes too early
abbrev pub not_registered : List ℕ
not_registered = reply (codes "451") (codes "*" ∷ codes "You have not registered" ∷ [])

-- a command with too few parameters, in the answer to a client of this name
abbrev pub not_enough : List ℕ → List ℕ → List ℕ
not_enough name command = reply (codes "461") (name ∷ command ∷ codes "Not enough parameters" ∷ [])

-- a word as an answer repeats it: its first 64 bytes, or `*` where it is empty
abbrev pub told_word : List ℕ → List ℕ
told_word word = if length word == 0 then codes "*" else take name_limit word

-- a word that is no channel's name
abbrev pub no_channel : List ℕ → List ℕ → List ℕ
no_channel nick word = reply (codes "403") (nick ∷ told_word word ∷ codes "No such channel" ∷ [])

-- the password is not the gate's
abbrev pub incorrect : List ℕ
incorrect = reply (codes "464") (codes "*" ∷ codes "Password incorrect" ∷ [])

-- no capability is offered
abbrev pub capabilities : List ℕ
capabilities = reply (codes "CAP") (codes "*" ∷ codes "LS" ∷ [] ∷ [])

-- the answer to a PING (RFC 2812, 3.7.2)
abbrev pub pong : List ℕ → List ℕ
pong token = reply (codes "PONG") (codes "bouncer.local" ∷ token ∷ [])

-- a text of the bouncer itself to a client of this nick
abbrev pub status : List ℕ → List ℕ → List ℕ
status nick text =
    with_end (spelling (line_of (codes "*status!bouncer@local") (codes "PRIVMSG") (nick ∷ text ∷ [])))

-- what is shown, as it is sent: its first 510 bytes with CR LF
abbrev pub shown_cut : List ℕ → List ℕ
shown_cut shown = with_end (take content_limit shown)
