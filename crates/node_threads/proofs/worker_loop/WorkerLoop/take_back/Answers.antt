use Rattle.std.proofs.Common.{◌≡◌, sym, ◌∙◌, refl}
use Rattle.node_threads.proofs.Waiting.{one_lost, one_or_lost}
use Rattle.node_threads.proofs.worker_loop.WorkerLoop.take_back.Goals as goal

pub returns-in-Ok-clause-requests : goal.returns-in-Ok-clause-requests
returns-in-Ok-clause-requests g c = one_or_lost _ _ _ _ _ _ (sym c.asked_in.ensures ∙ c.in-Some-asked_in.is) c.give_back.ensures

pub returns-in-Err-clause-requests : goal.returns-in-Err-clause-requests
returns-in-Err-clause-requests g c = one_lost _ _ _ _ c.lose_back.ensures
