use Rattle.world_views.proofs.Sent.{not_read}
use Rattle.world_views.proofs.merged_records.what_was_sent_is_not_read.Goals as goal

pub returns : goal.returns
returns g c = λ s. not_read _
