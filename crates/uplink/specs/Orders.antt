-- What is given over all calls, described without a session: nothing before the first 001, and from it on all lines
-- except PING.
use Rattle.std.specs.Prelude.{◌≡◌, ℕ, Bool, true, false, if◌then◌else◌, List, [], ◌∷◌, ◌++◌, codes}
use Rattle.irc_line.specs.Names.{same_bytes}
use Rattle.irc_line.specs.declared.item.Item.{Item}
use Rattle.irc_line.specs.declared.item.Item.TheVariants.{Got, Refused}
use Rattle.uplink.specs.declared.input.UplinkInput.{UplinkInput}
use Rattle.uplink.specs.declared.input.UplinkInput.TheVariants.{Opened, Heard, Closed}
use Rattle.uplink.specs.Calls.{Call, inputs_of, replies_of, standing_of}

-- the server takes the client in
abbrev pub is_welcome : Item → Bool
is_welcome (Got line) = same_bytes line.command (codes "001")
is_welcome (Refused fault) = false

-- the first 001 and what comes after it
abbrev pub from_welcome : List Item → List Item
from_welcome [] = []
from_welcome (item ∷ items) = if is_welcome item then item ∷ items else from_welcome items

-- it opens the session
abbrev pub opening : List Item → List UplinkInput
opening [] = []
opening (item ∷ items) = Opened ∷ []

-- a line except PING is heard
abbrev pub heard_at : Item → List UplinkInput
heard_at (Got line) = if same_bytes line.command (codes "PING") then [] else Heard line ∷ []
heard_at (Refused fault) = []

-- the lines except PING, in order
abbrev pub heard_of : List Item → List UplinkInput
heard_of [] = []
heard_of (item ∷ items) = heard_at item ++ heard_of items

-- what the items of a whole stream give
abbrev pub session_inputs : List Item → List UplinkInput
session_inputs items = opening (from_welcome items) ++ heard_of (from_welcome items)

-- nothing is left
abbrev pub is_last : List UplinkInput → Bool
is_last [] = true
is_last (input ∷ inputs) = false

-- lines that are heard, and then the end, at most once
abbrev pub is_heard_to_end : List UplinkInput → Bool
is_heard_to_end [] = true
is_heard_to_end (Opened ∷ inputs) = false
is_heard_to_end (Heard line ∷ inputs) = is_heard_to_end inputs
is_heard_to_end (Closed ∷ inputs) = is_last inputs

-- the session is opened before anything is heard, and what is not opened only ends
abbrev pub is_in_order : List UplinkInput → Bool
is_in_order [] = true
is_in_order (Opened ∷ inputs) = is_heard_to_end inputs
is_in_order (Heard line ∷ inputs) = false
is_in_order (Closed ∷ inputs) = is_last inputs

-- two lists of calls give and write the same in all, and leave the uplink in the same standing
abbrev pub AreAlike : List ℕ → List Call → List Call → Type 0
AreAlike nick one other = (inputs_of nick one ≡ inputs_of nick other) × (replies_of nick one ≡ replies_of nick other) × (standing_of nick one ≡ standing_of nick other)
