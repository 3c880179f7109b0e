use Rattle.world_views.proofs.Replays.{records_replay}
use Rattle.world_views.proofs.one_history.merged_records_replay.Goals as goal

pub returns : goal.returns
returns g c = λ s. records_replay _
