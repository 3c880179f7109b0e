use Rattle.world_views.proofs.Unique.{merged_is_one}
use Rattle.world_views.proofs.merged_records.records_merge_in_one_way.Goals as goal

pub returns : goal.returns
returns g c = merged_is_one _ _ _
