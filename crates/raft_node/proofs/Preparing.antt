-- Steps as plans that go on.
use Rattle.std.proofs.Common.{List, [], sym, ap, refl, arith}
use Rattle.raft_log.specs.declared.entry.Entry.{Entry}
use Rattle.raft_log.specs.declared.node_state.Standing.{Standing}
use Rattle.raft_log.specs.declared.step.Step.{Step}
use Rattle.raft_log.specs.Node.{Node}
use Rattle.raft_log.specs.Steps.{IsSending, IsStep}
use Rattle.raft_log.proofs.Sending.{node_still, sent-prepares, sent-savable}
use Rattle.node_steps.specs.Plans.{Plan, Goes, IsStepOf}

module _ {B : Type 0} (standing : Standing) (log : List (Entry B)) (step : Step B) where
  -- a step by a definition
  pub stepped : (f : Node B → Node B) → IsStep f standing log step → IsStepOf (λ s. Goes (f s)) standing log step
  stepped f h = record { goes = λ sent. let go : Node B → Plan B = λ s. Goes s in ap go (sym (h.prepares sent)); savable = h.savable }

  -- a step that changes nothing
  pub stayed : IsSending standing log [] step → IsStepOf (λ s. Goes s) standing log step
  stayed h =
      record {
        goes = λ sent.
            let go : Node B → Plan B = λ s. Goes s in
            ap go (sym (sent-prepares standing log [] step h standing (λ s. s) (λ sent. node_still standing log sent) sent));
        savable = sent-savable standing log [] step h standing refl (omega arith);
      }
