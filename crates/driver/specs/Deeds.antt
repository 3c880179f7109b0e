-- What orders do, a byte at a time: this way it does not matter whether what goes to a client is one order or several.
use Rattle.std.specs.Prelude.{◌==◌, ◌&&◌, ℕ, Bool, true, false, not, List, [], ◌∷◌, ◌++◌, map, flat_map, Option, Some, None}
use Rattle.driver.specs.declared.order.Order.{Order}
use Rattle.driver.specs.declared.order.Order.TheVariants.{Submit, Write, Close, Connect, Send, Disconnect, Log}
use Rattle.driver.specs.declared.order_list.Writing.{Writing}
use Rattle.driver.specs.declared.said.Said.{Said, Nothing, Written', Other'}

-- a byte goes to the client of this number, or an order of another kind is carried out
pub data Deed : Type 0 where
  Byte : (client byte : ℕ) → Deed
  Done : Order → Deed

-- what an order does
abbrev pub deeds_of : Order → List Deed
deeds_of (Submit node note) = Done (Submit node note) ∷ []
deeds_of (Write client bytes) = map (Byte client) bytes.items
deeds_of (Close client) = Done (Close client) ∷ []
deeds_of Connect = Done Connect ∷ []
deeds_of (Send bytes) = Done (Send bytes) ∷ []
deeds_of Disconnect = Done Disconnect ∷ []
deeds_of (Log news) = Done (Log news) ∷ []

-- what orders do, in turn
abbrev pub deeds : List Order → List Deed
deeds = flat_map deeds_of

-- the order that writes this to a client, if there is anything to write
abbrev pub write_of : Option Writing → List Order
write_of None = []
write_of (Some writing) = Write writing.client writing.bytes ∷ []

-- the client that an order writes to, if it writes to one
abbrev pub written_by : Order → Option ℕ
written_by (Write client bytes) = Some client
written_by other = None

-- these are two different clients
abbrev pub are_two : Option ℕ → Option ℕ → Bool
are_two (Some client) (Some other) = not (client == other)
are_two (Some client) None = true
are_two None other = true

-- after an order that writes to this client, if it writes to one, no order writes to the same client as the order
-- before it
abbrev pub are_merged_behind : Option ℕ → List Order → Bool
are_merged_behind client [] = true
are_merged_behind client (order ∷ more) = are_two client (written_by order) && are_merged_behind (written_by order) more

-- no order writes to the same client as the order before it
abbrev pub are_merged : List Order → Bool
are_merged = are_merged_behind None

-- the client that the last of these orders writes to, if it writes to one; without orders, this one
abbrev pub written_last : Option ℕ → List Order → Option ℕ
written_last client [] = client
written_last client (order ∷ more) = written_last (written_by order) more

-- if no write is held apart, the last of the others is none
abbrev pub is_last_apart : Option Writing → Option ℕ → Bool
is_last_apart None None = true
is_last_apart None (Some client) = false
is_last_apart (Some writing) client = true

-- what was ordered, each write by itself
abbrev pub said_in : Said → List Order
said_in Nothing = []
said_in (Written' client bytes marker past) = said_in past ++ Write client bytes.value ∷ []
said_in (Other' order marker past) = said_in past ++ order.value ∷ []
