use Rattle.std.proofs.Common.{◌≡◌, length, refl, ap}
use Rattle.node_threads.specs.declared.cluster_fault.ClusterFault.TheVariants.{Memory}
use Rattle.node_threads.proofs.Exits.{fault_at_exit, none_at_exit}
use Rattle.node_threads.proofs.cluster.opening.make_inboxes.Goals as goal

pub loop-init : goal.loop-init
loop-init g c = (ap length c.new-inboxes.ensures.items, ap length c.new-outboxes.ensures.items)

pub returns-in_err-inbox-clause-all : goal.returns-in_err-inbox-clause-all
returns-in_err-inbox-clause-all g c = none_at_exit c.from_residual.result _ (λ e. e ≡ Memory) c.from_residual.ensures.1

pub returns-in_err-inbox-clause-fault : goal.returns-in_err-inbox-clause-fault
returns-in_err-inbox-clause-fault g c = fault_at_exit c.from_residual.result (λ e. e ≡ Memory) c.from_residual.ensures.1

pub returns-then-is_err-clause-fault : goal.returns-then-is_err-clause-fault
returns-then-is_err-clause-fault g c = refl
