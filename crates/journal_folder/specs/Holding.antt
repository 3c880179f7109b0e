-- The journals of a group of nodes, each in the place of its node.
use Rattle.std.specs.Prelude.{◌≡◌, ℕ, List, map, take}
use Rattle.store_setup.specs.declared.store_setup.StoreSetup.{StoreSetup}
use Rattle.journal_folder.specs.Losses.{Stands}
use Rattle.journal_folder.specs.Nodes.{all_nodes}
use Rattle.journal_folder.specs.declared.standing.NodeJournal.{NodeJournal}
use Rattle.journal_folder.specs.declared.standing.Standing.{Standing}

-- one for each node of a group of this size, node 1's first
abbrev pub AreOfNodes : ℕ → List NodeJournal → Type 0
AreOfNodes size journals = map (λ first. first.node) journals ≡ take size all_nodes

-- these are the states of some journals, one for each node of a group of this size
pub record StandsForSome (size : ℕ) (standing : Standing) : Type 0 where
  pub group : List NodeJournal
  pub nodes : AreOfNodes size group
  pub stands : Stands group standing

-- the journals of a store have states
pub record IsHeld (store : StoreSetup) : Type 0 where
  pub standing : Standing
  pub stands : StandsForSome store.nodes standing
