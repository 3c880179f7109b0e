use Rattle.progress.proofs.AllSessions.{waiting_is_claimed}
use Rattle.progress.proofs.laws.a_line_that_waits_is_claimed.Goals as goal

pub returns : goal.returns
returns g c = λ s. waiting_is_claimed _
