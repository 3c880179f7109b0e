-- Inputs are processed together, if there are any.
use Rattle.std.proofs.Common.{◌≤◌, List, [], ◌∷◌, length, Result, arith}
use Rattle.raft_node.specs.Machine.{Machine}
use Rattle.world_views.specs.Inputs.{NodeInput}
use Rattle.node_cells.specs.declared.cell_fault.CellFault.{CellFault}
use Rattle.node_cells.specs.Inputs.{Answer}
use Rattle.node_cells.specs.Turns.{CellOf}
use Rattle.node_threads.specs.Rounds.{GathersAnswers}
use Rattle.node_threads.specs.Together.{HasGatheredAll, HasTurnedAll, HaveTurned}
use Rattle.node_threads.specs.declared.worker_loop.round.Round.{Round}

module _ (M : Machine) {Setup Hosted Store U : Type 0} where
  pub turned_some : (inputs : List (NodeInput M.Body M.Line)) (c d : CellOf M Setup Hosted Store U) (answer : Result (List Answer) CellFault) → 1 ≤ length inputs → HaveTurned M c inputs answer d
      → HasTurnedAll M inputs c d
  turned_some [] c d answer some h = absurd (omega (arith, some))
  turned_some (x ∷ inputs) c d answer some h = record { answer = answer; turned = h }

  pub gathered_some : (inputs : List (NodeInput M.Body M.Line)) (c : CellOf M Setup Hosted Store U) (old : Round M.Effect) (d : CellOf M Setup Hosted Store U) (new : Round M.Effect)
      (answer : Result (List Answer) CellFault) → 1 ≤ length inputs → HaveTurned M c inputs answer d → GathersAnswers answer old new → HasGatheredAll M inputs c old d new
  gathered_some [] c old d new answer some h gathers = absurd (omega (arith, some))
  gathered_some (x ∷ inputs) c old d new answer some h gathers = record { answer = answer; turned = h; gathers = gathers }
