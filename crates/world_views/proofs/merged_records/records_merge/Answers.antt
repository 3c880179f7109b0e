use Rattle.world_views.proofs.Merging.{merges}
use Rattle.world_views.proofs.merged_records.records_merge.Goals as goal

pub returns : goal.returns
returns g c = λ s. merges _
