-- Events as lines of text.
use Rattle.std.specs.Prelude.{◌≡◌, ℕ, suc, ◌<◌, ◌≤◌, ◌^◌, Bool, true, false, IsTrue, List, [], ◌∷◌, ◌++◌, All, flat_map, length, codes, decimal}
use Rattle.hex.specs.Hex.{encode_lower}
use Rattle.irc_line.specs.Names.{is_name}
use Rattle.raft_log.specs.Lists.{IsNode}
use Rattle.wire_bytes.specs.Limits.{second_limit}
use Rattle.world_events.specs.declared.event.Input.{Input}
use Rattle.world_events.specs.declared.event.Input.TheVariants as input
use Rattle.world_events.specs.declared.event.Event.{Event}
use Rattle.world_events.specs.declared.event.Event.TheVariants.{Does, Restart, StopIn}
use Rattle.recorder.specs.declared.kind.Kind.{Kind}
use Rattle.recorder.specs.declared.kind.Kind.TheVariants as kind
use Rattle.recorder.specs.Kinds.{word}

-- a node and what follows it
abbrev pub node_and : ℕ → List ℕ → List ℕ
node_and node tail = decimal node ++ 32 ∷ tail

-- a number and what follows it
abbrev pub number_and : ℕ → List ℕ → List ℕ
number_and number tail = decimal number ++ 32 ∷ tail

-- the words of a stop, by whether what was saved is as after the event
abbrev pub stop_words : Bool → List ℕ
stop_words false = codes "stop before "
stop_words true = codes "stop after "

-- a node that restarts
abbrev pub restart_text : ℕ → List ℕ
restart_text node = codes "restart " ++ decimal node

-- Over the spelling of a body and of a line
module _ {B L : Type 0} (body : B → List ℕ) (line : L → List ℕ) where
  -- the kind of what happens
  abbrev pub kind_of : Input B L (List ℕ) → Kind
  kind_of (input.Timeout n) = kind.Timeout
  kind_of (input.Beat n) = kind.Beat
  kind_of (input.Deliver n k) = kind.Deliver
  kind_of (input.Ask n b) = kind.Ask
  kind_of (input.Opened n) = kind.Opened
  kind_of (input.Closed n) = kind.Closed
  kind_of (input.Heard n at l) = kind.Heard
  kind_of (input.Claim n) = kind.Claim
  kind_of (input.Apply n) = kind.Apply
  kind_of (input.Look n place target) = kind.Look

  -- what follows the word of its kind
  abbrev pub fields : Input B L (List ℕ) → List ℕ
  fields (input.Timeout n) = decimal n
  fields (input.Beat n) = decimal n
  fields (input.Deliver n k) = node_and n (decimal k)
  fields (input.Ask n b) = node_and n (encode_lower (body b))
  fields (input.Opened n) = decimal n
  fields (input.Closed n) = decimal n
  fields (input.Heard n at l) = node_and n (number_and at (line l))
  fields (input.Claim n) = decimal n
  fields (input.Apply n) = decimal n
  fields (input.Look n place target) = node_and n (number_and place target)

  -- the word of its kind and its fields
  abbrev pub input_text : Input B L (List ℕ) → List ℕ
  input_text x = word (kind_of x) ++ 32 ∷ fields x

  -- the line of an event, without its end
  abbrev pub event_text : Event B L (List ℕ) → List ℕ
  event_text (Does x) = input_text x
  event_text (Restart n) = restart_text n
  event_text (StopIn x after) = stop_words after ++ input_text x

  -- the line with its end
  abbrev pub event_line : Event B L (List ℕ) → List ℕ
  event_line e = event_text e ++ 10 ∷ []

  -- one line for each event
  abbrev pub events_text : List (Event B L (List ℕ)) → List ℕ
  events_text events = flat_map event_line events

  -- The limits of what is written

  module _ (fits_body : B → Type 0) (fits_line : L → Type 0) where
    -- its node is one of a group, and each other field is within its limits
    abbrev pub IsInput : Input B L (List ℕ) → Type 0
    IsInput (input.Timeout n) = IsNode n
    IsInput (input.Beat n) = IsNode n
    IsInput (input.Deliver n k) = IsNode n × (k < 2 ^ 64)
    IsInput (input.Ask n b) = IsNode n × fits_body b
    IsInput (input.Opened n) = IsNode n
    IsInput (input.Closed n) = IsNode n
    IsInput (input.Heard n at l) = IsNode n × ((at ≤ second_limit) × fits_line l)
    IsInput (input.Claim n) = IsNode n
    IsInput (input.Apply n) = IsNode n
    IsInput (input.Look n place target) = IsNode n × ((place < 2 ^ 64) × IsTrue (is_name target))

    -- the node of an event is one of a group, and what happens to it is within the limits
    abbrev pub IsEvent : Event B L (List ℕ) → Type 0
    IsEvent (Does x) = IsInput x
    IsEvent (Restart n) = IsNode n
    IsEvent (StopIn x after) = IsInput x

    -- each is within the limits
    abbrev pub AreEvents : List (Event B L (List ℕ)) → Type 0
    AreEvents events = All IsEvent events

    -- a line is the first that is no event: this many events come before it, and the rest begins with none
    pub record IsBadLine (text : List ℕ) (number : ℕ) : Type 0 where
      pub before : List (Event B L (List ℕ))
      pub good : AreEvents before
      pub counted : number ≡ suc (length before)
      pub rest : List ℕ
      pub whole : events_text before ++ rest ≡ text
      pub left : 0 < length rest
      pub bad : (e : Event B L (List ℕ)) (more : List ℕ) → IsEvent e → event_line e ++ more ≡ rest → ⊥
