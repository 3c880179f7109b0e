-- Why the nodes do not start, as the program reports it.
use Rattle.node_threads.specs.declared.cluster_fault.ClusterFault.{ClusterFault}
use Rattle.node_threads.specs.declared.cluster_fault.ClusterFault.TheVariants as cluster
use Rattle.raft_node.specs.declared.node_fault.Cause.TheVariants as cause
use Rattle.raft_node.specs.declared.node_fault.NodeFault.{NodeFault}
use Rattle.raft_node.specs.declared.node_fault.NodeFault.TheVariants.{Down, Refused}
use Rattle.bouncer_run.specs.declared.run_fault.RunFault.{RunFault}
use Rattle.bouncer_run.specs.declared.run_fault.RunFault.TheVariants.{Memory, Store}

-- why a node does not start: out of memory, or its store
abbrev pub fault_of_node : NodeFault → RunFault
fault_of_node (Down cause.Memory) = Memory
fault_of_node (Down cause.Store) = Store
fault_of_node (Refused refusal) = Store

-- why nodes do not start: out of memory, or else their stores
abbrev pub fault_by : ClusterFault → RunFault
fault_by cluster.Memory = Memory
fault_by (cluster.NoNode n) = Store
fault_by cluster.Stopped = Store
fault_by (cluster.Node fault) = fault_of_node fault
fault_by cluster.Spent = Store
