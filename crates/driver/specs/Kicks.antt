-- Clients that have a channel open are kicked from it before it is joined again, so that their programs take the JOIN
-- for a new one.
use Rattle.std.specs.Prelude.{◌≡◌, ℕ, Bool, true, false, codes, List, [], ◌∷◌, ◌++◌, Option, Some, None}
use Rattle.std.specs.BTreeMap.{keys}
use Rattle.irc_line.specs.Lines.{Parts, parameter}
use Rattle.driver.specs.declared.client.Client.{Client}
use Rattle.driver.specs.declared.link.Stage.{Stage}
use Rattle.driver.specs.Crowds.{IsSame, Told}
use Rattle.driver.specs.Links.{is_session_of}
use Rattle.driver.specs.Nicks.{IsWritten}
use Rattle.driver.specs.Opening.{closed, has_open}
use Rattle.driver.specs.Rosters.{AreOthersSame, client_at}

-- the line that kicks the user with this nick from a channel, since the server was gone
abbrev pub kick_line : List ℕ → List ℕ → List ℕ
kick_line channel nick = codes ":bouncer.local KICK " ++ channel ++ 32 ∷ nick ++ codes " :The server was gone" ++ 13 ∷ 10 ∷ []

-- a client has a channel of this name open, if there is one
abbrev pub has_open_in : List ℕ → Option Client → Bool
has_open_in name None = false
has_open_in name (Some client) = has_open name client.channels

-- The client of this number, if it has the channel open: it is sent this, if it is attached and connected, and the
-- channel is closed for it. All others are unchanged.
pub record KicksClient (channel text : List ℕ) (number : ℕ) (old new : Told) : Type 0 where
  pub others : AreOthersSame number old.clients new.clients
  pub nobody : client_at old.clients number ≡ None → IsSame old new
  pub stays : (c : Client) → client_at old.clients number ≡ Some c → has_open channel c.channels ≡ false → IsSame old new
  pub closes :
      (c : Client) → client_at old.clients number ≡ Some c → has_open channel c.channels ≡ true
      → client_at new.clients number ≡ Some (record c { channels = closed channel c.channels })
  pub written : (c : Client) → client_at old.clients number ≡ Some c → has_open channel c.channels ≡ true → IsWritten (Some c) text old.orders new.orders

-- for the clients of these numbers, in this order
unfoldable pub KickEach : List ℕ → List ℕ → List ℕ → Told → Told → Type 0
KickEach channel text [] old new = new ≡ old
KickEach channel text (number ∷ numbers) old new =
    (behind : Told) × KicksClient channel text number old behind × KickEach channel text numbers behind new

-- if this is so, the clients that have the channel open that a line joins again are kicked from it
abbrev pub RejoinsIf : Bool → Parts → List ℕ → Told → Told → Type 0
RejoinsIf false line nick old new = IsSame old new
RejoinsIf true line nick old new = KickEach (parameter 0 line) (kick_line (parameter 0 line) nick) (keys old.clients.all) old new

-- a line joins a channel again if the server's connection is a session of this node
abbrev pub Rejoins : Stage → ℕ → Parts → List ℕ → Told → Told → Type 0
Rejoins stage node line nick old new = RejoinsIf (is_session_of stage node) line nick old new
