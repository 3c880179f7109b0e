-- A client's requests go to its node once, unless they may be lost.
use Rattle.std.specs.Prelude.{◌≡◌, ◌++◌, ℕ, Bool, false, List, [], ◌∷◌, map, flat_map}
use Rattle.bouncer_tower.specs.Bodies.{TowerBody}
use Rattle.buffer_commands.specs.declared.wire_line.WireLine.{WireLine}
use Rattle.request_once.specs.declared.body.Body.TheVariants.{Asked}
use Rattle.client_gate.specs.declared.request.Request.{Request}
use Rattle.client_gate.specs.declared.settings.Settings.{Settings}
use Rattle.client_gate.specs.Calls.{Call, Stands}
use Rattle.client_gate.specs.Gates.{GateEffect}
use Rattle.client_gate.specs.Numbers.{all_requests}
use Rattle.node_notes.specs.declared.note.Note.{Note}
use Rattle.node_notes.specs.declared.note.Note.TheVariants.{Ask}
use Rattle.wire_bytes.specs.declared.moment.Moment.{Moment}
use Rattle.wire_bytes.specs.declared.origin.Origin.{Origin}
use Rattle.driver.specs.declared.client.Client.{Client}
use Rattle.driver.specs.declared.news.News.{News}
use Rattle.driver.specs.declared.news.News.TheVariants.{Attached, Evicted, Left}
use Rattle.driver.specs.declared.order.Order.{Order}
use Rattle.driver.specs.declared.order.Order.TheVariants.{Close, Submit, Log, Write}
use Rattle.driver.specs.Asking.{HearsNode, is_stuck, may_be_lost}
use Rattle.driver.specs.Crowds.{Ticks}
use Rattle.driver.specs.Leaving.{IsDismissed}
use Rattle.driver.specs.Serving.{Hears, IsLost, Receives}
use Rattle.driver.specs.Telling.{Ordered, ordered}

-- the number of the request that a note asks for, if it asks for one
abbrev pub number_in : Note TowerBody WireLine → List ℕ
number_in (Ask (Asked origin number at action)) = number ∷ []
number_in note = []

-- the number of the request that an order sends a node, if it does
abbrev pub number_told : Order → List ℕ
number_told (Submit node note) = number_in note
number_told order = []

-- the numbers of all requests that orders send, in order
abbrev pub numbers_told : List Order → List ℕ
numbers_told orders = flat_map number_told orders

-- the numbers of requests
abbrev pub numbers_of : List Request → List ℕ
numbers_of requests = map (λ request. request.number) requests

-- The requests sent for a client are those its gate numbered meanwhile, each once and in order.
pub record TellsOnce (s : Settings) (calls : List Call) (before : Ordered) (new : Client) (after : Ordered) : Type 0 where
  pub behind : List Call
  pub stands : Stands s behind new.gate
  pub told : List Order
  pub orders : after ≡ ordered before told
  pub once : numbers_of (all_requests s behind) ≡ numbers_of (all_requests s calls) ++ numbers_told told

-- What happens to a client at a moment: bytes of it come, which are answered later if its password is wrong; an effect
-- of a request comes, under a nick; its connection is gone; it is to leave; its node reports what may be lost and
-- whether it refused a turn; or time passes, in which it is read or not.
pub data Event : Type 0 where
  Speaks : List ℕ → ℕ → Event
  Learns : GateEffect → List ℕ → Event
  Goes : Event
  Dismissed : Event
  Words : ℕ → Bool → Event
  Waits : Bool → ℕ → Event

-- This happens to a client, whatever calls its gate has had.
abbrev pub Happens : Event → ℕ → Moment → Client → Ordered → Client → Ordered → Type 0
Happens (Speaks bytes due) now at old before new after =
    (s : Settings) (calls : List Call) → Stands s calls old.gate → Receives bytes now at due s calls old before new after
Happens (Learns effect nick) now at old before new after =
    (s : Settings) (calls : List Call) → Stands s calls old.gate → Hears effect nick now at s calls old before new after
Happens Goes now at old before new after =
    (s : Settings) (calls : List Call) → Stands s calls old.gate → IsLost now at s calls old before new after
Happens Dismissed now at old before new after =
    (s : Settings) (calls : List Call) → Stands s calls old.gate → IsDismissed now at s calls old before new after
Happens (Words lost refused) now at old before new after =
    (s : Settings) (calls : List Call) → Stands s calls old.gate → HearsNode lost refused now at s calls old before new after
Happens (Waits reads timeout) now at old before new after =
    (s : Settings) (calls : List Call) → Stands s calls old.gate → Ticks reads timeout now at s calls old before new after

-- what waits is sent again: it may be lost, or is held up
abbrev pub asks_again : Event → ℕ → Client → Bool
asks_again (Words lost refused) now c = may_be_lost lost c
asks_again (Waits reads timeout) now c = is_stuck timeout now c
asks_again event now c = false

-- An event and its moment.
pub record Happening : Type 0 where
  pub event : Event
  pub now : ℕ
  pub at : Moment

-- These happen in turn.
unfoldable pub HappenAll : List Happening → Client → Ordered → Client → Ordered → Type 0
HappenAll [] old before new after = (new ≡ old) × (after ≡ before)
HappenAll (h ∷ more) old before new after =
    (client : Client) × (orders : Ordered)
    × Happens h.event h.now h.at old before client orders × HappenAll more client orders new after

-- These happen in turn, and nothing is asked again.
unfoldable pub AreQuiet : List Happening → Client → Ordered → Client → Ordered → Type 0
AreQuiet [] old before new after = (new ≡ old) × (after ≡ before)
AreQuiet (h ∷ more) old before new after =
    (asks_again h.event h.now old ≡ false)
    × (client : Client) × (orders : Ordered)
    × Happens h.event h.now h.at old before client orders × AreQuiet more client orders new after

-- As long as nothing that a client asked may be lost, and nothing holds it up: each of its requests is sent once, and
-- in order.
abbrev pub AsksOnce : Type 0
AsksOnce =
    (happenings : List Happening) (s : Settings) (calls : List Call) (old new : Client) (before after : Ordered)
    → AreQuiet happenings old before new after → Stands s calls old.gate → TellsOnce s calls before new after

-- a note is a request of this client
abbrev pub IsAskOf : Origin → Note TowerBody WireLine → Type 0
IsAskOf origin (Ask (Asked other number at action)) = other ≡ origin
IsAskOf origin note = ⊥

-- it is logged that this client registered, that it is closed, or that it left
abbrev pub IsNewsOf : Origin → News → Type 0
IsNewsOf origin (Attached other name) = other ≡ origin
IsNewsOf origin (Left other) = other ≡ origin
IsNewsOf origin (Evicted other why) = other ≡ origin
IsNewsOf origin news = ⊥

-- an order is of this client: its node gets a request of it, it is written to or closed, or it is logged
abbrev pub IsFor : Origin → Order → Type 0
IsFor origin (Submit node note) = (node ≡ origin.0) × IsAskOf origin note
IsFor origin (Write client bytes) = client ≡ origin.2
IsFor origin (Close client) = client ≡ origin.2
IsFor origin (Log news) = IsNewsOf origin news
IsFor origin order = ⊥

-- all orders are of this client
unfoldable pub TellsOnly : Origin → List Order → Type 0
TellsOnly origin [] = Unit {0}
TellsOnly origin (order ∷ more) = IsFor origin order × TellsOnly origin more

-- What was ordered between is of this client alone.
pub record TellsOwn (origin : Origin) (before after : Ordered) : Type 0 where
  pub told : List Order
  pub orders : after ≡ ordered before told
  pub own : TellsOnly origin told

-- Whatever happens to a client: its requests go to its own node, under its own origin, and what is written goes to it.
abbrev pub AsksOwn : Type 0
AsksOwn =
    (happenings : List Happening) (s : Settings) (calls : List Call) (old new : Client) (before after : Ordered)
    → HappenAll happenings old before new after → Stands s calls old.gate → TellsOwn old.origin before after
