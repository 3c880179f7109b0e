-- What an uplink gives over the whole list of its calls, the first call first.
use Rattle.std.specs.Prelude.{◌≡◌, ℕ, Bool, true, false, if◌then◌else◌, List, [], ◌∷◌, ◌++◌}
use Rattle.std.specs.List.{list_any}
use Rattle.irc_line.specs.Splitting.{items, Stands}
use Rattle.uplink.specs.declared.input.UplinkInput.{UplinkInput}
use Rattle.uplink.specs.declared.input.UplinkInput.TheVariants.{Closed}
use Rattle.uplink.specs.declared.session.Session.{Session}
use Rattle.uplink.specs.declared.session.Session.TheVariants.{Registering}
use Rattle.uplink.specs.declared.standing.Standing.{Standing}
use Rattle.uplink.specs.declared.standing.Standing.TheVariants.{Live, Lost, Over}
use Rattle.uplink.specs.Sessions.{after_items, inputs_from, replies_from}

-- a call
pub data Call : Type 0 where
  -- these bytes were fed
  Fed : List ℕ → Call
  -- bytes were fed, and memory ran out
  Failed : Call
  -- the connection's end was reported
  Ended : Call

-- this call reports the connection's end
abbrev pub is_end : Call → Bool
is_end (Fed bytes) = false
is_end Failed = false
is_end Ended = true

-- at this call memory ran out
abbrev pub is_failure : Call → Bool
is_failure (Fed bytes) = false
is_failure Failed = true
is_failure Ended = false

-- the bytes of the session: those that were fed before the end was reported or memory ran out, in one piece
abbrev pub bytes_of : List Call → List ℕ
bytes_of [] = []
bytes_of (Fed bytes ∷ later) = bytes ++ bytes_of later
bytes_of (Failed ∷ later) = []
bytes_of (Ended ∷ later) = []

-- the session after these calls, while it lasts
abbrev pub session_of : List ℕ → List Call → Session
session_of nick calls = after_items (Registering nick) (items (bytes_of calls))

-- the standing of the uplink: over once its end was reported, lost if memory ran out before, else live
unfoldable pub standing_of : List ℕ → List Call → Standing
standing_of nick calls =
    if list_any is_end calls then Over else if list_any is_failure calls then Lost else Live (session_of nick calls)

-- the end is given once, however often it is reported
abbrev pub closing : List Call → List UplinkInput
closing calls = if list_any is_end calls then Closed ∷ [] else []

-- all that was given
unfoldable pub inputs_of : List ℕ → List Call → List UplinkInput
inputs_of nick calls = inputs_from (Registering nick) (items (bytes_of calls)) ++ closing calls

-- all that was written after the first bytes
unfoldable pub replies_of : List ℕ → List Call → List ℕ
replies_of nick calls = replies_from (Registering nick) (items (bytes_of calls))

-- The value of an uplink

-- its standing, and what it holds of the line that has not ended
pub record Link : Type 0 where
  pub standing : Standing
  pub held : List ℕ

-- the state after these calls of an uplink that was made with this nick
pub record IsAfter (link : Link) (nick : List ℕ) (calls : List Call) : Type 0 where
  pub standing : link.standing ≡ standing_of nick calls
  pub held : (s : Session) → link.standing ≡ Live s → Stands link.held (bytes_of calls)

-- whatever the calls were before, this one leads to this standing of the uplink, gives these inputs and writes these
-- bytes
pub record GoesOn (old : Link) (call : Call) (new : Link) (given : List UplinkInput) (written : List ℕ) : Type 0 where
  pub after : (nick : List ℕ) (calls : List Call) → IsAfter old nick calls → IsAfter new nick (calls ++ call ∷ [])
  pub inputs : (nick : List ℕ) (calls : List Call) → IsAfter old nick calls → inputs_of nick calls ++ given ≡ inputs_of nick (calls ++ call ∷ [])
  pub replies : (nick : List ℕ) (calls : List Call) → IsAfter old nick calls → replies_of nick calls ++ written ≡ replies_of nick (calls ++ call ∷ [])

-- neither over nor lost
abbrev pub IsLive : Standing → Type 0
IsLive standing = (s : Session) × (standing ≡ Live s)
