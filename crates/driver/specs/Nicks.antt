-- The nick in force, as far as the driver knows it, and what clients learn of it and of other news.
use Rattle.std.specs.Prelude.{◌≡◌, ◌&&◌, ℕ, Bool, true, false, not, codes, if◌then◌else◌, List, [], ◌∷◌, ◌++◌, Option, Some, None}
use Rattle.std.specs.Global.{Vec}
use Rattle.std.specs.BTreeMap.{keys}
use Rattle.irc_line.specs.Lines.{Parts, parameter}
use Rattle.irc_line.specs.Names.{same_bytes}
use Rattle.buffer_machine.specs.Messages.{has_command, is_new_nick}
use Rattle.buffer_commands.specs.declared.wire_line.WireLine.{WireLine}
use Rattle.bouncer_tower.specs.Bodies.{TowerBody}
use Rattle.node_notes.specs.declared.note.Note.{Note}
use Rattle.node_notes.specs.declared.note.Note.TheVariants as note
use Rattle.driver.specs.declared.client.Client.{Client}
use Rattle.driver.specs.declared.clients.Clients.{Clients}
use Rattle.driver.specs.declared.driver.Driver.{Driver}
use Rattle.driver.specs.declared.order.Order.TheVariants.{Write}
use Rattle.driver.specs.Absent.{Missed, absent_text}
use Rattle.driver.specs.Missing.{missing}
use Rattle.driver.specs.Rosters.{client_at}
use Rattle.driver.specs.Telling.{Ordered, ordered}

-- the nick in force: the one that the server gave, else the one that is asked for
abbrev pub nick_by : Option (List ℕ) → List ℕ → List ℕ
nick_by None asked = asked
nick_by (Some given) asked = given

-- the nick in force, as a driver knows it
abbrev pub nick_in : Driver → List ℕ
nick_in driver = nick_by driver.given driver.settings.nick

-- the nick that the server gave, after a line from it, by the machine's own rule
abbrev pub given_by : List ℕ → Parts → Option (List ℕ) → Option (List ℕ)
given_by was line given = if is_new_nick was line then Some (parameter 0 line) else given

-- the nick that the server gave, after what came in a session: a line may give another, nothing else does
abbrev pub given_behind : Note TowerBody WireLine → Driver → Option (List ℕ)
given_behind (note.Heard at line) driver = given_by (nick_in driver) line driver.given
given_behind other driver = driver.given

-- Clients learn another nick from the line that begins a session, since the buffers don't show that line; any other
-- change they are shown.
abbrev pub is_renamed : List ℕ → Parts → Bool
is_renamed was line = is_new_nick was line && has_command (codes "001") line && not (same_bytes was (parameter 0 line))

-- the line that tells a client of this nick that it has another now
abbrev pub renaming : List ℕ → List ℕ → List ℕ
renaming was new = 58 ∷ was ++ codes " NICK " ++ new ++ 13 ∷ 10 ∷ []

-- the line that tells a client of this nick that there is no message of the day (RFC 2812, 5.2: ERR_NOMOTD)
abbrev pub no_motd : List ℕ → List ℕ
no_motd nick = codes ":bouncer.local 422 " ++ nick ++ codes " :No message of the day" ++ 13 ∷ 10 ∷ []

-- a line from `*status` with a text for a client of this nick
abbrev pub notice : List ℕ → List ℕ → List ℕ
notice nick text = codes ":*status!bouncer@local NOTICE " ++ nick ++ codes " :" ++ text ++ 13 ∷ 10 ∷ []

-- an attached and connected client is sent this
abbrev pub IsWrittenIf : Bool → ℕ → List ℕ → Ordered → Ordered → Type 0
IsWrittenIf false number text before after = after ≡ before
IsWrittenIf true number text before after = (line : Vec ℕ) × (line.items ≡ text) × (after ≡ ordered before (Write number line ∷ []))

-- a client is attached and connected
abbrev pub is_reached : Client → Bool
is_reached client = client.is_attached && not client.is_gone

-- the client that was found is sent this, if it is attached and connected
abbrev pub IsWritten : Option Client → List ℕ → Ordered → Ordered → Type 0
IsWritten None text before after = after ≡ before
IsWritten (Some client) text before after = IsWrittenIf (is_reached client) client.origin.2 text before after

-- for the clients of these numbers, in this order
unfoldable pub AreWritten : List ℕ → Clients → List ℕ → Ordered → Ordered → Type 0
AreWritten [] clients text before after = after ≡ before
AreWritten (number ∷ numbers) clients text before after =
    (behind : Ordered) × IsWritten (client_at clients number) text before behind × AreWritten numbers clients text behind after

-- for all clients
abbrev pub AllAreWritten : Clients → List ℕ → Ordered → Ordered → Type 0
AllAreWritten clients text before after = AreWritten (keys clients.all) clients text before after

-- a client that is registered and connected was greeted by another nick than this one
abbrev pub is_misnamed : Client → List ℕ → Bool
is_misnamed client nick = is_reached client && not (same_bytes client.nick nick)

-- and learns this one
abbrev pub IsNamed : Client → List ℕ → Ordered → Ordered → Type 0
IsNamed client nick before after = IsWrittenIf (is_misnamed client nick) client.origin.2 (renaming client.nick nick) before after

-- for the client that was found, if there is one
abbrev pub IsNamedIn : Option Client → List ℕ → Ordered → Ordered → Type 0
IsNamedIn None nick before after = after ≡ before
IsNamedIn (Some client) nick before after = IsNamed client nick before after

-- what people are sent when too few nodes are up, and when enough are again
abbrev pub group_words : Bool → List ℕ
group_words true = codes "Nothing is shown or sent for now: too few nodes are up."
group_words false = codes "Enough nodes are up again."

-- a client is told that too few nodes are up, if that is so
abbrev pub IsWarned : Bool → Option Client → List ℕ → Ordered → Ordered → Type 0
IsWarned false found nick before after = after ≡ before
IsWarned true found nick before after = IsWritten found (notice nick (group_words true)) before after

-- a client gets this from `*status`, if there is something
abbrev pub IsToldOf : Option (List ℕ) → Option Client → List ℕ → Ordered → Ordered → Type 0
IsToldOf None found nick before after = after ≡ before
IsToldOf (Some text) found nick before after = IsWritten found (notice nick text) before after

-- what a client that attaches is warned of: too few nodes are up; there is no server, by these words; and these
-- channels are not joined
pub record Warned : Type 0 where
  pub short : Bool
  pub missing : Option (List ℕ)
  pub absent : List Missed

-- what people are told at this moment if there is no server
abbrev pub missing_in : Driver → ℕ → Option (List ℕ)
missing_in driver now = missing driver.link.stage driver.link.ended now

-- what a client that attaches at this moment is warned of
abbrev pub warned : Driver → ℕ → Warned
warned driver now = record { short = driver.is_short; missing = missing_in driver now; absent = driver.link.absent.channels }

-- a client gets a line for each of these channels, that it is not joined and, if known, why
unfoldable pub AreMissed : List Missed → Option Client → List ℕ → Ordered → Ordered → Type 0
AreMissed [] found nick before after = after ≡ before
AreMissed (missed ∷ more) found nick before after =
    (behind : Ordered) × IsToldOf (absent_text missed) found nick before behind × AreMissed more found nick behind after

-- A client registered: it learns the nick in force if it was greeted by another, then that there is no MOTD, which ends
-- its welcome, that too few nodes are up if that is so, that there is no server if there is none, and which channels
-- are not joined.
pub record IsWelcomed (warned : Warned) (found : Option Client) (nick : List ℕ) (before after : Ordered) : Type 0 where
  pub named : Ordered
  pub ended : Ordered
  pub names : IsNamedIn found nick before named
  pub ends : IsWritten found (no_motd nick) named ended
  pub short : Ordered
  pub warns : IsWarned warned.short found nick ended short
  pub missed : Ordered
  pub misses : IsToldOf warned.missing found nick short missed
  pub absent : AreMissed warned.absent found nick missed after

-- for a client that had not registered before, and may have now
abbrev pub IsGreeted : Bool → Warned → Option Client → List ℕ → Ordered → Ordered → Type 0
IsGreeted true warned found nick before after = after ≡ before
IsGreeted false warned found nick before after = IsWelcomed warned found nick before after

-- all clients learn another nick if they are to
abbrev pub RenamesIf : Bool → Clients → List ℕ → Ordered → Ordered → Type 0
RenamesIf false clients text before after = after ≡ before
RenamesIf true clients text before after = AllAreWritten clients text before after

-- clients learn another nick if what came is the line that begins a session with it, and else nothing
abbrev pub RenamesBy : Note TowerBody WireLine → Driver → Ordered → Type 0
RenamesBy (note.Heard at line) old after =
    RenamesIf (is_renamed (nick_in old) line) old.clients (renaming (nick_in old) (parameter 0 line)) old.orders after
RenamesBy other old after = after ≡ old.orders

-- A line from the server may give another nick: the driver knows it, and clients learn it if the buffers don't show it.
pub record TakesNick (line : Parts) (old new : Driver) : Type 0 where
  pub renames : RenamesIf (is_renamed (nick_in old) line) old.clients (renaming (nick_in old) (parameter 0 line)) old.orders new.orders
  pub rest : new ≡ record old { orders = new.orders; given = given_by (nick_in old) line old.given }

-- for whatever came in a session
pub record HearsNick (came : Note TowerBody WireLine) (old new : Driver) : Type 0 where
  pub renames : RenamesBy came old new.orders
  pub rest : new ≡ record old { orders = new.orders; given = given_behind came old }
