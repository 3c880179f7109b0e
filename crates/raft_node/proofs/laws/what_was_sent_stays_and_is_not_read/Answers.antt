use Rattle.raft_node.proofs.Keeps.{sent_grows}
use Rattle.raft_node.proofs.Unread.{sent_is_not_read}
use Rattle.raft_node.proofs.laws.what_was_sent_stays_and_is_not_read.Goals as goal

pub returns : goal.returns
returns g c = record { grows = λ s. sent_grows _; is_not_read = λ s. sent_is_not_read _ }
