use Rattle.world_run.proofs.Answers as proved
use Rattle.headline.specs.Tower.{tower}
use Rattle.headline.proofs.laws.playback_is_faithful.Goals as goal

pub returns : goal.returns
returns c = record { looks = λ s. proved.looks_are_faithful (tower s); applies = λ s. proved.apply_is_faithful (tower s) }
