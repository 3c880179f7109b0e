use Rattle.std.proofs.Common.{◌≡◌}
use Rattle.node_threads.specs.declared.cluster_fault.ClusterFault.TheVariants.{Memory}
use Rattle.node_threads.proofs.Exits.{fault_at_exit}
use Rattle.node_threads.proofs.cluster.opening.clones.Goals as goal

pub returns-in_err-clone : goal.returns-in_err-clone
returns-in_err-clone g c = fault_at_exit c.from_residual.result (λ e. e ≡ Memory) c.from_residual.ensures.1
