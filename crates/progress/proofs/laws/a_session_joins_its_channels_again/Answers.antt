use Rattle.progress.proofs.Joined.{sessions_join}
use Rattle.progress.proofs.laws.a_session_joins_its_channels_again.Goals as goal

pub returns : goal.returns
returns c = λ s size es. sessions_join s size es
