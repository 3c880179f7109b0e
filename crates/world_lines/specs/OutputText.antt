-- What comes out of a list of events, and the nodes' states afterwards, as lines of text.
use Rattle.std.specs.Prelude.{ℕ, suc, List, [], ◌∷◌, ◌++◌, length, flat_map, codes, decimal}
use Rattle.raft_log.specs.Node.{Node}
use Rattle.raft_node.specs.Machine.{Machine}
use Rattle.raft_node.specs.Steps.{Out, Quiet, Left, Looked, Refused, Missing}
use Rattle.node_steps.specs.declared.refusal.Refusal.{Refusal}
use Rattle.node_steps.specs.declared.refusal.Refusal.TheVariants.{LogFull, TermsSpent, NoLeader, Behind, BadOrigin}
use Rattle.agreement.specs.World.{start}
use Rattle.recorder.specs.EffectWords.{printed_line}
use Rattle.recorder.specs.NodeLines.{node_line}
use Rattle.world_events.specs.declared.event.Event.{Event}
use Rattle.world_events.specs.declared.event.Event.TheVariants.{Does, Restart, StopIn}
use Rattle.world_events.specs.declared.event.Input.{Input}
use Rattle.world_events.specs.declared.event.Input.TheVariants.{Timeout, Beat, Deliver, Ask, Opened, Closed, Heard, Claim, Apply, Look}
use Rattle.world_run.specs.Told.{events_of}
use Rattle.world_run.specs.World.{run, outputs}

module _ {B L T : Type 0} where
  -- the node that an input names; for a delivery the sender
  abbrev pub named_in : Input B L T → ℕ
  named_in (Timeout n) = n
  named_in (Beat n) = n
  named_in (Deliver n k) = n
  named_in (Ask n body) = n
  named_in (Opened n) = n
  named_in (Closed n) = n
  named_in (Heard n at line) = n
  named_in (Claim n) = n
  named_in (Apply n) = n
  named_in (Look n from_place target) = n

  -- the node that an event names
  abbrev pub named_node : Event B L T → ℕ
  named_node (Does x) = named_in x
  named_node (Restart n) = n
  named_node (StopIn x after) = named_in x

-- why a node was unchanged; the numbers 1 and 2 are for nodes that are down, which no event of a list finds
abbrev pub refusal_words : Refusal → List ℕ
refusal_words LogFull = codes "3 LogFull"
refusal_words TermsSpent = codes "4 TermsSpent"
refusal_words NoLeader = codes "5 NoLeader"
refusal_words (Behind applied) = codes "6 Behind " ++ decimal applied
refusal_words BadOrigin = codes "7 BadOrigin"

-- the number of an event and a node, before what came out there
abbrev pub front : ℕ → ℕ → List ℕ
front number node = decimal number ++ 32 ∷ decimal node ++ 32 ∷ []

-- an event that named no node of the group, or no message that was sent
abbrev pub none_line : ℕ → List ℕ
none_line number = decimal number ++ codes " none" ++ 10 ∷ []

-- a node that was unchanged, and why
abbrev pub refused_line : ℕ → ℕ → Refusal → List ℕ
refused_line number node refusal = front number node ++ codes "refused " ++ refusal_words refusal ++ 10 ∷ []

-- Over the words of an effect
module _ {E : Type 0} (words : E → List ℕ) where
  -- an effect that leaves, with the place of its entry
  abbrev pub effect_line : ℕ → ℕ → ℕ → E → List ℕ
  effect_line number node place effect = front number node ++ decimal place ++ 32 ∷ words effect ++ 10 ∷ []

  -- a line an effect
  abbrev pub left_lines : ℕ → ℕ → ℕ → List E → List ℕ
  left_lines number node place effects = flat_map (effect_line number node place) effects

-- the place of a look, and how many lines it played
abbrev pub looked_line : ℕ → ℕ → ℕ → ℕ → List ℕ
looked_line number node place count = front number node ++ decimal place ++ codes " looked " ++ decimal count ++ 10 ∷ []

-- Over the spelling of a line that was played
module _ {P : Type 0} (spelled : P → List ℕ) where
  -- a line that was played, cut as all that is printed
  abbrev pub played_line : ℕ → ℕ → P → List ℕ
  played_line number node line = front number node ++ codes "line " ++ printed_line (spelled line) ++ 10 ∷ []

  -- a look, and each line that it played
  abbrev pub looked_lines : ℕ → ℕ → ℕ → List P → List ℕ
  looked_lines number node place lines = looked_line number node place (length lines) ++ flat_map (played_line number node) lines

-- the line of each node, from the node of this number on
abbrev pub node_lines : {B : Type 0} → ℕ → List (Node B) → List ℕ
node_lines number [] = []
node_lines number (s ∷ nodes) = node_line number s ++ node_lines (suc number) nodes

-- Over a machine, the words of its effects and the spelling of what it plays
module _ (M : Machine) (words : M.Effect → List ℕ) (spelled : M.Played → List ℕ) where
  -- what came out of the event of this number, which names this node
  abbrev pub out_lines : ℕ → ℕ → Out M → List ℕ
  out_lines number node Quiet = []
  out_lines number node (Left place effects) = left_lines words number node place effects
  out_lines number node (Looked place lines) = looked_lines spelled number node place lines
  out_lines number node (Refused refusal) = refused_line number node refusal
  out_lines number node Missing = none_line number

  -- what came out of each event, from the event of this number on
  abbrev pub outs_lines : ℕ → List (Event M.Body M.Line M.Target) → List (Out M) → List ℕ
  outs_lines number [] outs = []
  outs_lines number (e ∷ es) [] = []
  outs_lines number (e ∷ es) (out ∷ outs) = out_lines number (named_node e) out ++ outs_lines (suc number) es outs

  -- for a group of this size, what came out of these events, numbered from 1, and then the states of the nodes
  abbrev pub world_text : ℕ → List (Event M.Body M.Line M.Target) → List ℕ
  world_text size es = outs_lines 1 es (outputs M size (events_of M es)) ++ node_lines 1 (run M (events_of M es) (start size))
