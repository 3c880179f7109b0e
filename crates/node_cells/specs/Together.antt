-- Several inputs of a cell's node that leads, processed one after the other and saved at once.
use Rattle.std.specs.Prelude.{◌≡◌, ◌⊎◌, ◌<◌, ◌+◌, suc, true, false, List, [], ◌∷◌, ◌++◌, length, map, Option}
use Rattle.raft_node.specs.declared.node_fault.NodeFault.TheVariants.{Down, Refused as Declined}
use Rattle.raft_node.specs.Machine.{Machine}
use Rattle.world_views.specs.declared.node_event.NodeEvent.{NodeEvent}
use Rattle.world_views.specs.declared.node_event.NodeEvent.TheVariants.{Does}
use Rattle.world_views.specs.Inputs.{NodeInput}
use Rattle.node_cells.specs.declared.cell_fault.CellFault.{CellFault}
use Rattle.node_cells.specs.declared.cell_fault.CellFault.TheVariants.{Memory, Spent, Node as OfNode}
use Rattle.node_cells.specs.declared.phase.Phase.{Phase}
use Rattle.node_cells.specs.declared.phase.Phase.TheVariants.{Up, DownInTurn, DownInTurns, DownInRestart}
use Rattle.node_cells.specs.Books.{NotedOf, recorded_by, turn_in}
use Rattle.node_cells.specs.Cells.{AreAnswered, after_inputs, view_in}
use Rattle.node_cells.specs.Inputs.{Answer}
use Rattle.node_cells.specs.Restarts.{AreNoted, after_turns, outcome_by}
use Rattle.node_cells.specs.Turns.{CellOf, IsDownAs, IsEvent, WasDown}
use Rattle.node_cells.specs.Upstreams.{Tally}
use Rattle.wire_bytes.specs.Limits.{number_limit}

module _ {B L T : Type 0} where
  -- the node went down in the first of these inputs, before that was saved
  abbrev pub IsDownInFirst : List (NodeInput B L) → Phase B L T → Type 0
  IsDownInFirst [] phase = ⊥
  IsDownInFirst (x ∷ inputs) phase = (copy : Option (NodeInput B L)) × (phase ≡ DownInTurn x copy false)

  -- it went down while they were saved together
  abbrev pub IsDownInAll : List (NodeInput B L) → Phase B L T → Type 0
  IsDownInAll inputs Up = ⊥
  IsDownInAll inputs (DownInTurn x copy done) = ⊥
  IsDownInAll inputs (DownInTurns all copies answers) = all.items ≡ inputs
  IsDownInAll inputs DownInRestart = ⊥

  -- each input is done, with its answer
  abbrev pub all_done : List (NodeInput B L) → List Answer → List (NodeEvent B L T × Answer)
  all_done [] answers = []
  all_done (x ∷ inputs) [] = []
  all_done (x ∷ inputs) (a ∷ answers) = (Does x, a) ∷ all_done inputs answers

module _ (M : Machine) where
  module _ {Setup Hosted Store U : Type 0} where
    -- All inputs were done: each is an event with a ticket of its own and what came out of it, nothing was posted and no line handed out.
    pub record AreTurned (c : CellOf M Setup Hosted Store U) (inputs : List (NodeInput M.Body M.Line)) (answers : List Answer) (d : CellOf M Setup Hosted Store U) : Type 0 where
      pub noted : List (NotedOf M)
      pub many : length answers ≡ length inputs
      pub are : AreNoted M (all_done inputs answers) noted
      pub view : view_in d ≡ after_turns M (view_in c) (map (turn_in M) noted)
      pub state : (view_in d).state ≡ after_inputs M (view_in c).size (suc (view_in c).node) (view_in c).state inputs
      pub turns : d.turns ≡ c.turns ++ recorded_by c.recording noted
      pub outs : (view_in c).honest ≡ true → AreAnswered M (view_in c).size (suc (view_in c).node) (view_in c).state inputs answers
      pub sent : d.sent ≡ c.sent
      pub all_sent : (view_in c).honest ≡ true → (c.sent ≡ length (view_in c).state.sent) × (d.sent ≡ length (view_in d).state.sent)
      pub recording : d.recording ≡ c.recording
      pub ether : d.ether ≡ c.ether
      pub upstream : d.upstream ≡ c.upstream
      pub was_up : c.phase ≡ Up
      pub is_up : d.phase ≡ Up

    -- A node that was up went down while these inputs were saved, or, when memory ran out, in the first of them, before
    -- anything was saved.
    pub record FallsInTurns (c : CellOf M Setup Hosted Store U) (inputs : List (NodeInput M.Body M.Line)) (d : CellOf M Setup Hosted Store U) : Type 0 where
      pub was_up : c.phase ≡ Up
      pub phase : IsDownInFirst inputs d.phase ⊎ IsDownInAll inputs d.phase
      pub refused : d.refused ≡ c.refused
      pub same : IsDownAs M c d

    -- If there is no memory, no room or no more tickets, nothing changes; inputs together are not refused; else the
    -- node is down.
    abbrev pub AreNoTurns : CellOf M Setup Hosted Store U → List (NodeInput M.Body M.Line) → CellFault → CellOf M Setup Hosted Store U → Type 0
    AreNoTurns c inputs Memory d = d ≡ c
    AreNoTurns c inputs Spent d = (d ≡ c) × (number_limit < length (view_in c).turns + length inputs)
    AreNoTurns c inputs (OfNode (Declined refusal)) d = ⊥
    AreNoTurns c inputs (OfNode (Down cause)) d = FallsInTurns c inputs d ⊎ WasDown M c d

  module _ (Setup Hosted Store : Type 0) {U : Type 0} (tally : U → Tally) where
    -- One input alone is the same event as by a turn of it, with its answer.
    abbrev pub OneIsATurn : Type 0
    OneIsATurn =
        (c d : CellOf M Setup Hosted Store U) (x : NodeInput M.Body M.Line) (a : Answer)
        → AreTurned c (x ∷ []) (a ∷ []) d → IsEvent M tally c (Does x) (outcome_by a) d
