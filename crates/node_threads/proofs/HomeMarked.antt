-- That a cell stays its node's when it marks a place or waits for its mark.
use Rattle.std.proofs.Common.{ℕ, Bool, true, false, Option, Result, Ok, Err}
use Rattle.wire_bytes.specs.declared.mark.Mark.{Mark}
use Rattle.raft_node.specs.declared.input.Looked.{Looked as PlayedAt}
use Rattle.raft_node.specs.Machine.{Machine}
use Rattle.node_cells.specs.declared.cell_fault.CellFault.{CellFault}
use Rattle.node_cells.specs.declared.cell_fault.CellFault.TheVariants.{Memory, Spent, Node}
use Rattle.node_cells.specs.Turns.{CellOf}
use Rattle.node_cells.specs.Upstreams.{Tally}
use Rattle.node_cells.specs.declared.mark_turn.MarkTurn.{MarkTurn}
use Rattle.node_cells.specs.Marking.{HasLookedAfter, HasMarked, LooksWhere}
use Rattle.node_threads.specs.Homes.{IsSameHome}
use Rattle.node_threads.proofs.Home.{home_after_look, home_after_turn, same_home}

module _ (M : Machine) {Setup Hosted Store U : Type 0} (tally : U → Tally) (marked : M.Body → Option Mark) where
  by_found : (found : Bool) (c : CellOf M Setup Hosted Store U) (target : M.Target) (answer : Result (PlayedAt M.Played) CellFault) (d : CellOf M Setup Hosted Store U)
      → LooksWhere M tally found c target answer d → IsSameHome c d
  by_found true c target answer d h = home_after_look M tally c 0 target answer d h
  by_found false c target answer d h = same_home c d h.same

  pub home_after_waiting : (c : CellOf M Setup Hosted Store U) (number : ℕ) (target : M.Target) (answer : Result (PlayedAt M.Played) CellFault) (d : CellOf M Setup Hosted Store U)
      → HasLookedAfter M tally marked c number target answer d → IsSameHome c d
  home_after_waiting c number target answer d h = by_found h.found c target answer d h.looks

  pub home_after_mark : (mark : Mark → M.Body) (c : CellOf M Setup Hosted Store U) (answer : Result (MarkTurn M.Body M.Effect) CellFault) (d : CellOf M Setup Hosted Store U)
      → HasMarked M tally marked mark c answer d → IsSameHome c d
  home_after_mark mark c (Ok asked) d h = home_after_turn M tally c _ (Ok asked.output) d h.turn
  home_after_mark mark c (Err Memory) d h = same_home c d h
  home_after_mark mark c (Err Spent) d h = same_home c d h.0
  home_after_mark mark c (Err (Node fault)) d h = home_after_turn M tally c _ (Err (Node fault)) d h
