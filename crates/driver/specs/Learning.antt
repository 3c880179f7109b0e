-- The nick in force before the first session of a process: the one that clients are shown.
use Rattle.std.specs.Prelude.{◌≡◌, ℕ, true, if◌then◌else◌, List, Option, Some, None}
use Rattle.irc_line.specs.Names.{is_name, same_bytes}
use Rattle.client_gate.specs.Gates.{GateEffect}
use Rattle.driver.specs.declared.driver.Driver.{Driver}
use Rattle.driver.specs.Opening.{joined_as}
use Rattle.driver.specs.Nicks.{AllAreWritten, nick_in, renaming}

-- these bytes, if they are a name
abbrev pub name_if : List ℕ → Option (List ℕ)
name_if bytes = if is_name bytes then Some bytes else None

-- the nick by which a client is shown a JOIN, if no session gave a nick and another one was asked for
abbrev pub nick_learnt : Option (List ℕ) → List ℕ → Option (List ℕ) → Option (List ℕ)
nick_learnt (Some given) asked shown = None
nick_learnt None asked None = None
nick_learnt None asked (Some nick) = if same_bytes asked nick then None else name_if nick

-- Clients are told of this nick, and from then on it is in force.
pub record Learns (nick : List ℕ) (old new : Driver) : Type 0 where
  pub written : AllAreWritten old.clients (renaming (nick_in old) nick) old.orders new.orders
  pub rest : new ≡ record old { orders = new.orders; given = Some nick }

-- a nick is learnt, if there is one to learn, and else nothing changes
abbrev pub LearnsIf : Option (List ℕ) → Driver → Driver → Type 0
LearnsIf None old new = new ≡ old
LearnsIf (Some nick) old new = Learns nick old new

-- Before an effect passes its nick is learnt, if it shows one that was not known.
abbrev pub LearnsNick : GateEffect → Driver → Driver → Type 0
LearnsNick effect old new = LearnsIf (nick_learnt old.given old.settings.nick (joined_as effect)) old new

-- As long as no session gave a nick, a client is shown a JOIN by no nick but the one in force: after learning from the
-- JOIN it is in force.
abbrev pub JoinsShowTheNick : Type 0
JoinsShowTheNick =
    (effect : GateEffect) (nick : List ℕ) (old learnt : Driver) → LearnsNick effect old learnt
    → old.given ≡ None → joined_as effect ≡ Some nick → is_name nick ≡ true → nick_in learnt ≡ nick
