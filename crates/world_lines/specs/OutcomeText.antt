-- The same text, for what comes out as the code has it.
use Rattle.std.specs.Prelude.{◌≡◌, ℕ, suc, List, [], ◌∷◌, ◌++◌}
use Rattle.raft_node.specs.Machine.{Machine}
use Rattle.world_events.specs.declared.event.Event.{Event}
use Rattle.world_run.specs.declared.outcome.Outcome.{Outcome}
use Rattle.world_run.specs.declared.outcome.Outcome.TheVariants.{Quiet, Left, Looked, Refused, Missing}
use Rattle.world_run.specs.Groups.{IsWorld, WorldParts}
use Rattle.world_lines.specs.OutputText.{left_lines, looked_lines, named_node, node_lines, none_line, refused_line, world_text}

-- Over the words of effects and the spelling of what is played
module _ {E P : Type 0} (words : E → List ℕ) (spelled : P → List ℕ) where
  -- what came out of the event of this number, which names this node
  abbrev pub outcome_lines : ℕ → ℕ → Outcome E P → List ℕ
  outcome_lines number node Quiet = []
  outcome_lines number node (Left place effects) = left_lines words number node place effects.items
  outcome_lines number node (Looked place lines) = looked_lines spelled number node place lines.items
  outcome_lines number node (Refused refusal) = refused_line number node refusal
  outcome_lines number node Missing = none_line number

  -- what came out of each event, from the event of this number on
  abbrev pub outcomes_lines : {B L T : Type 0} → ℕ → List (Event B L T) → List (Outcome E P) → List ℕ
  outcomes_lines number [] outs = []
  outcomes_lines number (e ∷ es) [] = []
  outcomes_lines number (e ∷ es) (out ∷ outs) = outcome_lines number (named_node e) out ++ outcomes_lines (suc number) es outs

  -- what came out, and then the states of the nodes
  abbrev pub parts_text : {Setup B L T : Type 0} → List (Event B L T) → WorldParts Setup B E P → List ℕ
  parts_text es w = outcomes_lines 1 es w.outs ++ node_lines 1 w.nodes

-- If this is the world of these events, the text is theirs.
abbrev pub IsTextOf : {Setup : Type 0} (M : Machine) → (M.Effect → List ℕ) → (M.Played → List ℕ)
    → List (Event M.Body M.Line M.Target) → WorldParts Setup M.Body M.Effect M.Played → List ℕ → Type 0
IsTextOf M words spelled es w text = (size : ℕ) → IsWorld M size es w → text ≡ world_text M words spelled size es
