-- A cell's node marks a place, and a look waits for a mark.
use Rattle.std.specs.Prelude.{◌≡◌, ◌⊎◌, ◌≤◌, ℕ, suc, length, Bool, true, false, Option, Result, Ok, Err}
use Rattle.wire_bytes.specs.declared.mark.Mark.{Mark}
use Rattle.node_steps.specs.declared.refusal.Refusal.TheVariants.{Behind}
use Rattle.raft_node.specs.declared.node_fault.NodeFault.TheVariants.{Refused as Declined}
use Rattle.raft_node.specs.declared.input.Looked.{Looked as PlayedAt}
use Rattle.raft_node.specs.Machine.{Machine}
use Rattle.raft_node.specs.declared.input.Input.TheVariants.{Ask}
use Rattle.node_cells.specs.declared.cell_fault.CellFault.{CellFault}
use Rattle.node_cells.specs.declared.cell_fault.CellFault.TheVariants.{Memory, Spent, Node as OfNode}
use Rattle.node_cells.specs.declared.record.TurnOutput.{TurnOutput}
use Rattle.node_cells.specs.Cells.{view_in}
use Rattle.node_cells.specs.Turns.{CellOf, HasLooked, IsNoTurn, IsTurn}
use Rattle.node_cells.specs.Upstreams.{Tally}
use Rattle.node_cells.specs.declared.mark_turn.MarkTurn.{MarkTurn}
use Rattle.node_cells.specs.Marks.{asked_in, has_applied}
use Rattle.wire_bytes.specs.Limits.{number_limit}

module _ (M : Machine) {Setup Hosted Store U : Type 0} where
  -- the mark of this number, of the run in which the cell's node is
  abbrev pub own_mark : CellOf M Setup Hosted Store U → ℕ → Mark
  own_mark c number = record { node = suc (view_in c).node; boot = c.node.state.standing.boot; number = number }

  -- the answer Behind, with the place up to which the node has applied; nothing changes
  pub record IsBehind (c : CellOf M Setup Hosted Store U) (result : Result (PlayedAt M.Played) CellFault) (d : CellOf M Setup Hosted Store U) : Type 0 where
    pub applied : ℕ
    pub answers : result ≡ Err (OfNode (Declined (Behind applied)))
    pub place : (view_in c).honest ≡ true → applied ≡ (view_in c).state.applied
    pub same : d ≡ c

  module _ (tally : U → Tally) where
    -- a look, if the mark was found, and else the answer Behind
    abbrev pub LooksWhere : Bool → CellOf M Setup Hosted Store U → M.Target → Result (PlayedAt M.Played) CellFault → CellOf M Setup Hosted Store U → Type 0
    LooksWhere true c target result d = HasLooked M tally c 0 target result d
    LooksWhere false c target result d = IsBehind c result d

    module _ (marked : M.Body → Option Mark) where
      -- A look that waits until the node has applied a mark of its own, of its run, of at least this number.
      pub record HasLookedAfter (c : CellOf M Setup Hosted Store U) (number : ℕ) (target : M.Target) (result : Result (PlayedAt M.Played) CellFault) (d : CellOf M Setup Hosted Store U) : Type 0 where
        pub found : Bool
        pub found_is : (view_in c).honest ≡ true → found ≡ has_applied marked (view_in c) number
        pub looks : LooksWhere found c target result d

      module _ (mark : Mark → M.Body) where
        -- The node asked for a mark. Its number is one more than the greatest that its run asked for, and its run is
        -- the view's.
        pub record IsMarked (c : CellOf M Setup Hosted Store U) (number : ℕ) (output : TurnOutput M.Body M.Effect) (d : CellOf M Setup Hosted Store U) : Type 0 where
          pub next : number ≡ suc (asked_in marked (view_in c))
          pub few : number ≤ number_limit
          pub own : (view_in c).honest ≡ true → c.node.state.standing.boot ≡ (view_in c).state.boot
          pub turn : IsTurn M tally c (Ask (mark (own_mark c number))) output d

        -- There is no further number, or there are no more turns, and nothing changes; else the turn that asks for the
        -- next mark gives nothing.
        abbrev pub IsNotMarked : CellOf M Setup Hosted Store U → CellFault → CellOf M Setup Hosted Store U → Type 0
        IsNotMarked c Memory d = d ≡ c
        IsNotMarked c Spent d = (d ≡ c) × ((number_limit ≤ asked_in marked (view_in c)) ⊎ (number_limit ≤ length (view_in c).turns))
        IsNotMarked c (OfNode fault) d = IsNoTurn M tally c (Ask (mark (own_mark c (suc (asked_in marked (view_in c)))))) (OfNode fault) d

        -- by the answer to asking for a mark
        abbrev pub HasMarked : CellOf M Setup Hosted Store U → Result (MarkTurn M.Body M.Effect) CellFault → CellOf M Setup Hosted Store U → Type 0
        HasMarked c (Ok asked) d = IsMarked c asked.number asked.output d
        HasMarked c (Err fault) d = IsNotMarked c fault d
