-- What the records of a run's nodes give together.
use Rattle.std.specs.Prelude.{◌≡◌, ℕ, List, flat_map, map}
use Rattle.std.specs.List.Sorted.{IsNonDecreasingBy, IsPermutation, IsStableByKey}
use Rattle.std.specs.Ordering.{nat_cmp}
use Rattle.records.specs.declared.record.Merged.{Merged}
use Rattle.records.specs.declared.record.Record.{Record}
use Rattle.records.specs.declared.record.Turn.{Turn}
use Rattle.recorder.specs.declared.node_line.NodeFields.{NodeFields}

-- these are the items by rising key, those with the same key in their order
pub record IsRanked {X : Type 0} (key : X → ℕ) (items ranked : List X) : Type 0 where
  pub same : IsPermutation items ranked
  pub rises : IsNonDecreasingBy key ranked
  pub stable : IsStableByKey key nat_cmp items ranked

module _ {E O : Type 0} where
  -- the ticket that a turn drew
  abbrev pub ticket_of : Turn E O → ℕ
  ticket_of turn = turn.ticket

  -- the number of the node that left the record
  abbrev pub node_of : Record E O → ℕ
  node_of record' = record'.node

  -- all turns of records, one record's after the other's
  abbrev pub turns_of : List (Record E O) → List (Turn E O)
  turns_of records = flat_map (λ r. r.turns.items) records

  -- each node, and its state at the end
  abbrev pub nodes_of : List (Record E O) → List (ℕ × NodeFields)
  nodes_of records = map (λ r. (r.node, r.state)) records

  -- all turns of records, and their nodes
  pub record IsGathered (records : List (Record E O)) (merged : Merged E O) : Type 0 where
    pub turns : merged.turns.items ≡ turns_of records
    pub nodes : merged.nodes.items ≡ nodes_of records

  -- All turns by rising ticket, those with the same ticket by node, those of one node as in its record; the nodes by
  -- rising number.
  pub record IsMergeOf (records : List (Record E O)) (merged : Merged E O) : Type 0 where
    pub by_node : List (Record E O)
    pub ranked : IsRanked node_of records by_node
    pub turns : IsRanked ticket_of (turns_of by_node) merged.turns.items
    pub nodes : merged.nodes.items ≡ nodes_of by_node
