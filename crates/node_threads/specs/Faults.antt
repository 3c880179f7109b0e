-- The faults of lower calls as faults of a cluster, and when each comes.
use Rattle.std.specs.Prelude.{◌≡◌, ◌<◌, ◌≤◌, ℕ, Bool, true, false, Result, Ok, Err}
use Rattle.node_steps.specs.declared.refusal.Refusal.TheVariants.{LogFull, TermsSpent, NoLeader, Behind, BadOrigin}
use Rattle.raft_node.specs.declared.node_fault.NodeFault.TheVariants.{Down, Refused}
use Rattle.node_cells.specs.declared.cell_fault.CellFault.{CellFault}
use Rattle.node_cells.specs.declared.cell_fault.CellFault.TheVariants as of_cell
use Rattle.node_threads.specs.declared.cluster_fault.ClusterFault.{ClusterFault}
use Rattle.node_threads.specs.declared.cluster_fault.ClusterFault.TheVariants.{Memory, NoNode, Stopped, Node, Spent}

-- a fault of a cell, as a fault of the cluster that has it
abbrev pub from_cell : CellFault → ClusterFault
from_cell of_cell.Memory = Memory
from_cell of_cell.Spent = Spent
from_cell (of_cell.Node fault) = Node fault

-- there is no node of this number, in a group of this size, exactly if the answer says so
abbrev pub IsFound : {A : Type 0} → ℕ → ℕ → Result A ClusterFault → Type 0
IsFound size node (Ok x) = node ≤ size
IsFound size node (Err Memory) = ⊥
IsFound size node (Err (NoNode n)) = (size < node) × (n ≡ node)
IsFound size node (Err Stopped) = ⊥
IsFound size node (Err (Node fault)) = ⊥
IsFound size node (Err Spent) = ⊥

-- the same, if memory may run out for the answer
abbrev pub IsTold : {A : Type 0} → ℕ → ℕ → Result A ClusterFault → Type 0
IsTold size node (Ok x) = node ≤ size
IsTold size node (Err Memory) = node ≤ size
IsTold size node (Err (NoNode n)) = (size < node) × (n ≡ node)
IsTold size node (Err Stopped) = ⊥
IsTold size node (Err (Node fault)) = ⊥
IsTold size node (Err Spent) = ⊥

-- why something did not reach a worker
abbrev pub IsUndelivered : ClusterFault → Type 0
IsUndelivered Memory = Unit {0}
IsUndelivered (NoNode n) = ⊥
IsUndelivered Stopped = Unit {0}
IsUndelivered (Node fault) = ⊥
IsUndelivered Spent = ⊥

-- if the worker answered, this holds; memory may run out before, too
abbrev pub IfAnswered : {A : Type 0} → Result A ClusterFault → Type 0 → Type 0
IfAnswered (Ok x) P = P
IfAnswered (Err Memory) P = Unit {0}
IfAnswered (Err (NoNode n)) P = Unit {0}
IfAnswered (Err Stopped) P = Unit {0}
IfAnswered (Err (Node fault)) P = P
IfAnswered (Err Spent) P = P

-- what a worker may answer
abbrev pub IsNotOfCaller : {A : Type 0} → Result A ClusterFault → Type 0
IsNotOfCaller (Ok x) = Unit {0}
IsNotOfCaller (Err Memory) = Unit {0}
IsNotOfCaller (Err (NoNode n)) = ⊥
IsNotOfCaller (Err Stopped) = Unit {0}
IsNotOfCaller (Err (Node fault)) = Unit {0}
IsNotOfCaller (Err Spent) = Unit {0}

-- the node knew no leader, or had not applied enough
abbrev pub comes_early : ClusterFault → Bool
comes_early Memory = false
comes_early (NoNode n) = false
comes_early Stopped = false
comes_early (Node (Down cause)) = false
comes_early (Node (Refused LogFull)) = false
comes_early (Node (Refused TermsSpent)) = false
comes_early (Node (Refused NoLeader)) = true
comes_early (Node (Refused (Behind place))) = true
comes_early (Node (Refused BadOrigin)) = false
comes_early Spent = false

-- the answer is such a fault
abbrev pub is_early : {A : Type 0} → Result A ClusterFault → Bool
is_early (Ok x) = false
is_early (Err fault) = comes_early fault
