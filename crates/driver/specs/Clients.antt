-- How a client's requests go to its node.
use Rattle.std.specs.Prelude.{◌&&◌, ◌||◌, not, is_some, ℕ, Bool, true, false, nat_le, if◌then◌else◌, List, [], ◌∷◌, ◌++◌, Option, Some, None}
use Rattle.std.specs.Global.{Vec}
use Rattle.bouncer_tower.specs.Bodies.{TowerBody}
use Rattle.buffer_commands.specs.declared.wire_line.WireLine.{WireLine}
use Rattle.request_once.specs.declared.body.Body.TheVariants.{Asked}
use Rattle.buffer_commands.specs.declared.command.Action.{Action}
use Rattle.buffer_commands.specs.declared.command.Action.TheVariants.{Attach}
use Rattle.client_gate.specs.declared.fed.Fed.{Fed}
use Rattle.client_gate.specs.declared.request.Request.{Request}
use Rattle.wire_bytes.specs.declared.origin.Origin.{Origin}
use Rattle.wire_bytes.specs.declared.moment.Moment.{Moment}
use Rattle.node_notes.specs.declared.note.Note.{Note}
use Rattle.node_notes.specs.declared.note.Note.TheVariants.{Ask}
use Rattle.driver.specs.declared.client.Client.{Client}
use Rattle.driver.specs.declared.client.refusal.Refusal.{Refusal}
use Rattle.driver.specs.declared.timer.Timer.{Timer}
use Rattle.driver.specs.declared.news.News.TheVariants.{Attached, Left}
use Rattle.driver.specs.declared.order.Order.{Order}
use Rattle.driver.specs.declared.order.Order.TheVariants.{Submit, Log, Close, Write}
use Rattle.driver.specs.Cycling.{parted_all, reworded}

-- a request under the client's own origin and its own number
abbrev pub note_of : Origin → Moment → Request → Note TowerBody WireLine
note_of origin at request = Ask (Asked origin request.number at request.action)

-- a request goes to its client's own node
abbrev pub ask_of : Origin → Moment → Request → Order
ask_of origin at request = Submit origin.0 (note_of origin at request)

-- each request, in order
unfoldable pub asks_of : Origin → Moment → List Request → List Order
asks_of origin at [] = []
asks_of origin at (request ∷ requests) = ask_of origin at request ∷ asks_of origin at requests

-- a client is logged with its first request, and by which name it attaches
abbrev pub welcome : Bool → Origin → Option (List ℕ) → List Order
welcome true origin name = []
welcome false origin name = Log (Attached origin name) ∷ []

-- what requests of a client order, depending on whether it asked before; if not, they attach it by this name
unfoldable pub asked_all : Bool → Origin → Option (List ℕ) → Moment → List Request → List Order
asked_all attached origin name at [] = []
asked_all attached origin name at (request ∷ requests) = welcome attached origin name ++ asks_of origin at (request ∷ requests)

-- there is a request
abbrev pub is_some_asked : List Request → Bool
is_some_asked [] = false
is_some_asked (request ∷ requests) = true

-- the name by which a request attaches a client, if it gives one
abbrev pub name_in : Action → Option (List ℕ)
name_in (Attach name) = name
name_in other = None

-- the name by which these requests attach a client, if the first one gives a name
abbrev pub name_asked : List Request → Option (List ℕ)
name_asked [] = None
name_asked (request ∷ requests) = name_in request.action

-- the name of a client that registered before, or by these requests, if it gave one
abbrev pub named_by : Bool → Option (List ℕ) → List Request → Option (List ℕ)
named_by true name requests = name
named_by false name [] = name
named_by false name (request ∷ requests) = name_asked (request ∷ requests)

-- the last request of a client, if there is one
abbrev pub last_asks : Origin → Moment → Option Request → List Order
last_asks origin at None = []
last_asks origin at (Some request) = ask_of origin at request ∷ []

-- it is logged that a client left, if it had registered
abbrev pub left_news : Bool → Origin → List Order
left_news false origin = []
left_news true origin = Log (Left origin) ∷ []

-- a client's connection is closed, which is logged if it had registered, and its last request goes to its node
abbrev pub parting : Bool → Origin → Moment → Option Request → List Order
parting attached origin at request = Close origin.2 ∷ (left_news attached origin ++ last_asks origin at request)

-- nothing happens if the connection is gone already
unfoldable pub parting_unless : Bool → Bool → Origin → Moment → Option Request → List Order
parting_unless true attached origin at request = []
parting_unless false attached origin at request = parting attached origin at request

-- bytes are written, if there are any
abbrev pub write_some : ℕ → Vec ℕ → List ℕ → List Order
write_some client bytes [] = []
write_some client bytes (byte ∷ more) = Write client bytes ∷ []

-- bytes are written to a connected client
abbrev pub written : Bool → ℕ → Vec ℕ → List Order
written true client bytes = []
written false client bytes = write_some client bytes bytes.items

-- a client asked to leave by what its gate answered: the gate closes, and the last of the requests is Leave
abbrev pub has_left : Fed → Bool
has_left fed = fed.close && is_some_asked fed.requests.items

-- its gate closes, and not because it asked to leave
abbrev pub is_cut : Fed → Bool
is_cut fed = fed.close && not (is_some_asked fed.requests.items)

-- the orders for requests of a client: a Join of a channel that it asked to part from goes as a line
abbrev pub asked_by : Client → Moment → List Request → List Order
asked_by c at requests = asked_all c.is_attached c.origin (name_asked requests) at (reworded c.channels c.parting requests)

-- what a gate answered goes on: the bytes to its client, the requests to its node; if the gate closes, and the client
-- did not ask to leave, the client is closed
abbrev pub passed : Client → Moment → Option Request → Fed → List Order
passed c at last fed =
    (written c.is_gone c.origin.2 fed.reply ++ asked_by c at fed.requests.items)
    ++ (if is_cut fed then parting_unless c.is_gone (c.is_attached || is_some_asked fed.requests.items) c.origin at last else [])

-- since when a client has been leaving, depending on whether it asked to leave now
abbrev pub leaves_since : Bool → ℕ → Option Timer → Option Timer
leaves_since true now before = Some (record { since = now })
leaves_since false now before = before

-- a client after such an answer of its gate: it is attached once it asked for something, by the name in its first
-- request; it is leaving if it asked to, and is gone if the gate closes for another reason
abbrev pub behind_fed : ℕ → Client → Fed → Client
behind_fed now c fed = record c {
  is_attached = c.is_attached || is_some_asked fed.requests.items;
  name = named_by c.is_attached c.name fed.requests.items;
  parting = parted_all c.channels c.parting fed.requests.items;
  leaving = leaves_since (has_left fed) now c.leaving;
  is_gone = c.is_gone || is_cut fed;
}

-- a client whose password was wrong: what its gate wrote is held back until this moment
abbrev pub kept_back : ℕ → Client → Fed → Client
kept_back due c fed = record c {
  is_attached = c.is_attached || is_some_asked fed.requests.items;
  name = named_by c.is_attached c.name fed.requests.items;
  parting = parted_all c.channels c.parting fed.requests.items;
  refused = Some (record { answer = fed.reply; due = due });
}

-- nothing more is read from a client: it is leaving, or its connection is gone
abbrev pub is_leaving : Client → Bool
is_leaving c = c.is_gone || is_some c.leaving

-- nothing more is taken from a client: it is leaving, its connection is gone, or its password was wrong
abbrev pub is_shut : Client → Bool
is_shut c = is_leaving c || is_some c.refused

-- what a client whose password was wrong is sent at this moment, if its moment has come
abbrev pub due_answer : Option Refusal → ℕ → Option (List ℕ)
due_answer None now = None
due_answer (Some refusal) now = if nat_le refusal.due now then Some refusal.answer.items else None
