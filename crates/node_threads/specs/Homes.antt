-- The cells of a group's nodes: as they were opened, and as their workers leave them.
use Rattle.std.specs.Prelude.{◌≡◌, ◌⊎◌, ◌<◌, ℕ, suc, List, [], ◌∷◌, ◌++◌, length, Err}
use Rattle.raft_node.specs.Parts.{Keeper}
use Rattle.raft_node.specs.Starting.{IsStarted}
use Rattle.world_views.specs.Views.{IsAt, View}
use Rattle.ether.specs.declared.pass.Pass.{Pass}
use Rattle.ether.specs.Passes.{EtherParts}
use Rattle.node_cells.specs.declared.record.Recording.{Recording}
use Rattle.node_cells.specs.Cells.{CellParts, view_in}
use Rattle.node_cells.specs.Groups.{ClosingParts}
use Rattle.node_cells.specs.Openings.{IsFresh}
use Rattle.node_threads.specs.declared.cluster_fault.ClusterFault.{ClusterFault}
use Rattle.node_threads.specs.declared.cluster_fault.ClusterFault.TheVariants.{Memory, NoNode, Stopped, Node, Spent}
use Rattle.node_threads.specs.declared.part.Part.{Part}

-- this holds for each item and its place, where the first has place i
abbrev pub AllFrom : {A : Type 0} → (ℕ → A → Type 0) → ℕ → List A → Type 0
AllFrom P i [] = Unit {0}
AllFrom P i (x ∷ xs) = P i x × AllFrom P (suc i) xs

-- this holds for the items of two lists, place by place, and the lists have the same length
abbrev pub ArePaired : {A B : Type 0} → (A → B → Type 0) → List A → List B → Type 0
ArePaired R [] [] = Unit {0}
ArePaired R [] (y ∷ ys) = ⊥
ArePaired R (x ∷ xs) [] = ⊥
ArePaired R (x ∷ xs) (y ∷ ys) = R x y × ArePaired R xs ys

module _ {B L T : Type 0} where
  -- a later view of the same node, opened as it was
  pub record IsLaterView (v w : View B L T) : Type 0 where
    pub size : w.size ≡ v.size
    pub node : w.node ≡ v.node
    pub honest : w.honest ≡ v.honest
    pub opened : w.opened ≡ v.opened

-- the ether of a node, whether it records its turns, and its view as it was opened, or as it was if it was not opened
-- yet
pub record Home (Setup B L T : Type 0) : Type 0 where
  pub ether : EtherParts Setup
  pub recording : Recording
  pub view : View B L T

module _ {Setup B L T : Type 0} where
  -- the node at this place of an ether, which records its turns or doesn't
  pub record IsHome (e : EtherParts Setup) (r : Recording) (i : ℕ) (h : Home Setup B L T) : Type 0 where
    pub ether : h.ether ≡ e
    pub recording : h.recording ≡ r
    pub node : h.view.node ≡ i

  -- the node whose cell is the next to be closed
  pub record IsNextHome (closing : ClosingParts Setup B L T) (h : Home Setup B L T) : Type 0 where
    pub home : IsHome closing.ether closing.recording (length closing.views) h
    pub few : length closing.views < closing.ether.size

  -- the node was closed, with a view that it left
  pub record HasJoined (is_left : View B L T → Type 0) (old : ClosingParts Setup B L T) (new : ClosingParts Setup B L T) : Type 0 where
    pub ether : new.ether ≡ old.ether
    pub recording : new.recording ≡ old.recording
    pub view : View B L T
    pub left : is_left view
    pub views : new.views ≡ old.views ++ view ∷ []

module _ {Setup Hosted Store B L T E P U : Type 0} where
  -- the same node's cell, at its ether, later
  pub record IsSameHome (c d : CellParts Setup Hosted Store B L T E P U) : Type 0 where
    pub ether : d.ether ≡ c.ether
    pub recording : d.recording ≡ c.recording
    pub view : IsLaterView (view_in c) (view_in d)

  abbrev pub home_of : CellParts Setup Hosted Store B L T E P U → Home Setup B L T
  home_of c = record { ether = c.ether; recording = c.recording; view = view_in c }

  module _ {O : Type 0} (k : Keeper Store B) where
    -- the cell of the node at this place, as it was opened over the store of its part
    pub record IsOpenedOver (e : EtherParts Setup) (r : Recording) (parts : List (Part Store U O)) (i : ℕ) (c : CellParts Setup Hosted Store B L T E P U) : Type 0 where
      pub home : IsHome e r i (home_of c)
      pub part : Part Store U O
      pub at : IsAt parts i part
      pub pass : Pass B L T
      pub fresh : IsFresh k e pass part.store part.upstream r c

module _ {Setup Store B : Type 0} (k : Keeper Store B) (size : ℕ) (setup : Setup) where
  -- why the node of this number was not opened over its store
  abbrev pub IsNotOpened : ℕ → Store → ClusterFault → Type 0
  IsNotOpened node store Memory = Unit {0}
  IsNotOpened node store (NoNode n) = ⊥
  IsNotOpened node store Stopped = ⊥
  IsNotOpened node store (Node fault) = IsStarted {Hosted = Unit {0}} k node size setup store (Err fault)
  IsNotOpened node store Spent = ⊥

-- There are not as many parts as nodes of this size, and this is the first number of which there is a part but no node,
-- or a node but no part.
abbrev pub IsUnpaired : ℕ → ℕ → ClusterFault → Type 0
IsUnpaired size parts Memory = ⊥
IsUnpaired size parts (NoNode n) = ((parts < size) × (n ≡ suc parts)) ⊎ ((size < parts) × (n ≡ suc size))
IsUnpaired size parts Stopped = ⊥
IsUnpaired size parts (Node fault) = ⊥
IsUnpaired size parts Spent = ⊥

module _ {Setup Store B U O : Type 0} (k : Keeper Store B) (size : ℕ) (setup : Setup) (parts : List (Part Store U O)) where
  -- Why a cluster does not start. Node: the node of a part did not. NoNode: there are not as many parts as nodes.
  abbrev pub IsNoStart : ClusterFault → Type 0
  IsNoStart Memory = length parts ≡ size
  IsNoStart (NoNode n) = IsUnpaired size (length parts) (NoNode n)
  IsNoStart Stopped = ⊥
  IsNoStart (Node fault) = (i : ℕ) × (part : Part Store U O) × IsAt parts i part × IsNotOpened k size setup (suc i) part.store (Node fault)
  IsNoStart Spent = ⊥
