use Rattle.world_run.proofs.Holds as proved
use Rattle.headline.specs.Tower.{tower}
use Rattle.headline.proofs.laws.the_nodes_agree.Goals as goal

pub returns : goal.returns
returns c = record { one_list = λ s. proved.one_list (tower s); in_agreed = λ s. proved.in_agreed (tower s); agreed_grows = λ s. proved.agreed_grows (tower s); each_brought = λ s. proved.each_brought (tower s) }
