use Rattle.world_run.proofs.Holds.{one_list, in_agreed, agreed_grows, each_brought}
use Rattle.world_run.proofs.agreeing.committed_lists_agree.Goals as goal

pub returns : goal.returns
returns g c = record { one_list = λ s. one_list _; in_agreed = λ s. in_agreed _; agreed_grows = λ s. agreed_grows _; each_brought = λ s. each_brought _ }
