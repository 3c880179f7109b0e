-- The nodes of a cluster as their workers begin with them, open or not yet, and as they leave them.
use Rattle.std.specs.Prelude.{◌≡◌, ◌⊎◌, ℕ, suc, List, length, map, Result, Ok, Err}
use Rattle.raft_node.specs.Machine.{Machine}
use Rattle.raft_node.specs.Parts.{Keeper}
use Rattle.world_views.specs.Own.{ViewOf}
use Rattle.world_views.specs.Views.{IsAt, View}
use Rattle.ether.specs.declared.pass.Pass.{Pass}
use Rattle.ether.specs.Passes.{EtherParts, view_of}
use Rattle.node_cells.specs.declared.record.Recording.{Recording}
use Rattle.node_cells.specs.Cells.{CellParts, CellRoom, view_in}
use Rattle.node_cells.specs.Groups.{AreRecordsOfGroup, RecordOf}
use Rattle.node_cells.specs.Openings.{IsFresh}
use Rattle.node_cells.specs.Unopened.{IsUntouched, UnopenedParts}
use Rattle.node_threads.specs.declared.cluster_fault.ClusterFault.{ClusterFault}
use Rattle.node_threads.specs.declared.cluster_fault.ClusterFault.TheVariants.{Memory, NoNode, Stopped, Node, Spent}
use Rattle.node_threads.specs.declared.opener.PartStore.{PartStore}
use Rattle.node_threads.specs.declared.opener.PartStore.TheVariants as store
use Rattle.node_threads.specs.declared.part.Part.{Part}
use Rattle.node_threads.specs.declared.place.Place.{Place}
use Rattle.node_threads.specs.declared.place.Place.TheVariants.{Open, Late}
use Rattle.node_threads.specs.Homes.{AllFrom, ArePaired, Home, IsHome, IsLaterView, IsNoStart, IsNotOpened, IsOpenedOver, IsSameHome, IsUnpaired, home_of}

module _ {Hosted Store U O L T P Setup B E : Type 0} (k : Keeper Store B) (gives : O → Store → Type 0) where
  -- A late node was opened over a store that its opener gave: its cell as it was opened.
  pub record WasOpenedLate (u : UnopenedParts Setup B L T U) (opener : O) (c : CellParts Setup Hosted Store B L T E P U) : Type 0 where
    pub store : Store
    pub given : gives opener store
    pub fresh : IsFresh k u.ether u.pass store u.upstream u.recording c

  -- by what an opener gave, and a start over that: the cell as it is opened, or the node as it was
  abbrev pub HasTriedLate : {F : Type 0} → UnopenedParts Setup B L T U → O → Result (CellRoom Setup Hosted Store B L T E P U) (UnopenedParts Setup B L T U × F) → Type 0
  HasTriedLate u opener (Ok c) = WasOpenedLate u opener c.parts
  HasTriedLate u opener (Err back) = back.0 ≡ u

module _ {Hosted Store U O A L T P Setup B E : Type 0} where
  -- the node's ether, whether it records its turns, and its view as it was opened, or as it is if it was not opened yet
  abbrev pub place_home : Place Hosted Store U O A L T P Setup B E → Home Setup B L T
  place_home (Open c) = home_of c.parts
  place_home (Late u opener) = record { ether = u.ether; recording = u.recording; view = view_of u.pass }

  module _ (k : Keeper Store B) (gives : O → Store → Type 0) where
    -- What a worker leaves of the node that it began with: a node that was open is the same node later. One that was
    -- not was opened over a store that its opener gave, and is the same node later, or nothing happened to it.
    abbrev pub HasWorked : Place Hosted Store U O A L T P Setup B E → Place Hosted Store U O A L T P Setup B E → Type 0
    HasWorked (Open c) (Open d) = IsSameHome c.parts d.parts
    HasWorked (Open c) (Late v left) = ⊥
    HasWorked (Late u opener) (Open d) = (c : CellParts Setup Hosted Store B L T E P U) × WasOpenedLate k gives u opener c × IsSameHome c d.parts
    HasWorked (Late u opener) (Late v left) = v ≡ u

    -- the view that is left of it
    abbrev pub IsLeftView : Place Hosted Store U O A L T P Setup B E → View B L T → Type 0
    IsLeftView (Open c) v = IsLaterView (view_in c.parts) v
    IsLeftView (Late u opener) v =
        (v ≡ view_of u.pass) ⊎ ((c : CellParts Setup Hosted Store B L T E P U) × WasOpenedLate k gives u opener c × IsLaterView (view_in c) v)

-- The nodes of a running cluster: their ether, whether they record their turns, and the nodes as their workers began with them, node 1 first.
pub record ClusterParts (Hosted Store U O A L T P Setup B E : Type 0) : Type 0 where
  pub ether : EtherParts Setup
  pub recording : Recording
  pub places : List (Place Hosted Store U O A L T P Setup B E)

-- a part whose store is there
abbrev pub ready : {Store O U W : Type 0} → Part Store U W → Part (PartStore Store O) U W
ready p = record { store = store.Ready p.store; upstream = p.upstream; outlet = p.outlet }

module _ {Setup Store B O : Type 0} (k : Keeper Store B) (size : ℕ) (setup : Setup) where
  -- why a worker did not begin with the node of this number: the node was not opened over its store, or memory ran out
  abbrev pub IsNotBegun : ℕ → PartStore Store O → ClusterFault → Type 0
  IsNotBegun node (store.Ready s) fault = IsNotOpened k size setup node s fault
  IsNotBegun node (store.Late opener) fault = fault ≡ Memory

module _ {Setup Store B U : Type 0} (k : Keeper Store B) where
  module _ {Hosted O A L T P E : Type 0} where
    -- A node as its worker begins with it, by the store of its part: it was opened over that, or, if the store comes
    -- late, nothing happened to it, and it has the part's opener.
    abbrev pub IsBegunBy : EtherParts Setup → Recording → Pass B L T → PartStore Store O → U → Place Hosted Store U O A L T P Setup B E → Type 0
    IsBegunBy e r pass (store.Ready s) upstream (Open c) = IsFresh k e pass s upstream r c.parts
    IsBegunBy e r pass (store.Ready s) upstream (Late u opener) = ⊥
    IsBegunBy e r pass (store.Late late) upstream (Open c) = ⊥
    IsBegunBy e r pass (store.Late late) upstream (Late u opener) =
        (opener ≡ late) × (u ≡ record { ether = e; pass = pass; upstream = upstream; recording = r }) × IsUntouched e pass

    -- the node at this place, as its worker begins with it by the part at this place
    pub record IsBegunOver {W : Type 0} (e : EtherParts Setup) (r : Recording) (parts : List (Part (PartStore Store O) U W)) (i : ℕ) (place : Place Hosted Store U O A L T P Setup B E) : Type 0 where
      pub home : IsHome e r i (place_home place)
      pub part : Part (PartStore Store O) U W
      pub at : IsAt parts i part
      pub pass : Pass B L T
      pub begun : IsBegunBy e r pass part.store part.upstream place

module _ {Setup Store B O U W : Type 0} (k : Keeper Store B) (size : ℕ) (setup : Setup) (parts : List (Part (PartStore Store O) U W)) where
  -- Why a cluster with late nodes does not start. Node: the node of a part whose store is there did not. NoNode: there
  -- are not as many parts as nodes.
  abbrev pub IsNoBeginning : ClusterFault → Type 0
  IsNoBeginning Memory = length parts ≡ size
  IsNoBeginning (NoNode n) = IsUnpaired size (length parts) (NoNode n)
  IsNoBeginning Stopped = ⊥
  IsNoBeginning (Node fault) = (i : ℕ) × (part : Part (PartStore Store O) U W) × IsAt parts i part × IsNotBegun k size setup (suc i) part.store (Node fault)
  IsNoBeginning Spent = ⊥

  module _ {Hosted A L T P E : Type 0} where
    -- a cluster that runs: each node whose store was there was opened over it, nothing happened to the others, no part
    -- is left over, and either all record their turns or none does
    pub record AreBegun (recording : Recording) (c : ClusterParts Hosted Store U O A L T P Setup B E) : Type 0 where
      pub nodes : c.ether.size ≡ size
      pub setup_is : c.ether.setup ≡ setup
      pub recording_is : c.recording ≡ recording
      pub many : length c.places ≡ size
      pub paired : length parts ≡ size
      pub begun : AllFrom (IsBegunOver k c.ether recording parts) 0 c.places

    -- by what a start answers
    abbrev pub HasBegun : Recording → Result (ClusterParts Hosted Store U O A L T P Setup B E) ClusterFault → Type 0
    HasBegun recording (Ok c) = AreBegun recording c
    HasBegun recording (Err fault) = IsNoBeginning fault

module _ {Setup Store B U W : Type 0} (k : Keeper Store B) (size : ℕ) (setup : Setup) (parts : List (Part Store U W)) where
  module _ {Hosted O A L T P E : Type 0} where
    -- a cluster that runs with no late node: each node was opened over the store of its part, no part is left over, and
    -- either all record their turns or none does
    pub record AreStarted (recording : Recording) (c : ClusterParts Hosted Store U O A L T P Setup B E) : Type 0 where
      pub nodes : c.ether.size ≡ size
      pub setup_is : c.ether.setup ≡ setup
      pub recording_is : c.recording ≡ recording
      pub cells : List (CellRoom Setup Hosted Store B L T E P U)
      pub places_are : c.places ≡ map Open cells
      pub many : length cells ≡ size
      pub paired : length parts ≡ size
      pub opened : AllFrom (λ i cell. IsOpenedOver k c.ether recording parts i cell.parts) 0 cells

    -- by what a start answers
    abbrev pub HasStarted : Recording → Result (ClusterParts Hosted Store U O A L T P Setup B E) ClusterFault → Type 0
    HasStarted recording (Ok c) = AreStarted recording c
    HasStarted recording (Err fault) = IsNoStart k size setup parts fault

module _ (M : Machine) {Setup Hosted Store U O A : Type 0} (k : Keeper Store M.Body) (gives : O → Store → Type 0) where
  -- The records that a cluster leaves: those of all its nodes, which are of one group. The view of a node that was open from the start is a later
  -- view of that; the view of a late one is a later view of the node as it was opened over a store of its opener, or nothing happened to it.
  pub record AreLeft (c : ClusterParts Hosted Store U O A M.Line M.Target M.Played Setup M.Body M.Effect) (records : List (RecordOf M)) : Type 0 where
    pub views : List (ViewOf M)
    pub group : AreRecordsOfGroup M c.recording c.ether.size views records
    pub left : ArePaired (IsLeftView k gives) c.places views
