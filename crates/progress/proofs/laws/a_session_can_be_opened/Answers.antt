use Rattle.progress.proofs.AllSessions.{sessions_can_open}
use Rattle.progress.proofs.laws.a_session_can_be_opened.Goals as goal

pub returns : goal.returns
returns g c = λ s. sessions_can_open _
