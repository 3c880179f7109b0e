-- The numbers of a node's faults, and the fault of a node whose store fails.
use Rattle.std.specs.Prelude.{ℕ}
use Rattle.stable_store.specs.declared.store_fault.StoreFault.{StoreFault}
use Rattle.stable_store.specs.declared.store_fault.StoreFault.TheVariants.{Device, NotAStore, Version, Damaged, Memory as NoMemory}
use Rattle.node_steps.specs.declared.refusal.Refusal.TheVariants.{LogFull, TermsSpent, NoLeader, Behind, BadOrigin}
use Rattle.raft_node.specs.declared.node_fault.Cause.{Cause}
use Rattle.raft_node.specs.declared.node_fault.Cause.TheVariants.{Store, Memory}
use Rattle.raft_node.specs.declared.node_fault.NodeFault.{NodeFault}
use Rattle.raft_node.specs.declared.node_fault.NodeFault.TheVariants.{Down, Refused}

-- if a store runs out of memory so does its node, each other fault of it is the store's
abbrev pub cause_of : StoreFault → Cause
cause_of Device = Store
cause_of NotAStore = Store
cause_of Version = Store
cause_of (Damaged place) = Store
cause_of NoMemory = Memory

-- why a node is down after this fault of a start: what it refuses to start from is the store's
abbrev pub cause_after : NodeFault → Cause
cause_after (Down cause) = cause
cause_after (Refused refusal) = Store

-- from 1 to 7
abbrev pub fault_number : NodeFault → ℕ
fault_number (Down Store) = 1
fault_number (Down Memory) = 2
fault_number (Refused LogFull) = 3
fault_number (Refused TermsSpent) = 4
fault_number (Refused NoLeader) = 5
fault_number (Refused (Behind applied)) = 6
fault_number (Refused BadOrigin) = 7
