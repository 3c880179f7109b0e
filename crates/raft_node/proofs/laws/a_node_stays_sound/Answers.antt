use Rattle.raft_node.proofs.Keeps.{begins_sound, stays_sound}
use Rattle.raft_node.proofs.laws.a_node_stays_sound.Goals as goal

pub returns : goal.returns
returns g c = record { begins = begins_sound g.row.M-Command.Denot; stays = λ s. stays_sound _ }
