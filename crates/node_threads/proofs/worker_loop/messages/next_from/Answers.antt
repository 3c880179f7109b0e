use Rattle.std.proofs.Common.{Some, None, refl}
use Rattle.ether.proofs.Heard.{heard_last}
use Rattle.node_threads.proofs.worker_loop.messages.next_from.Goals as goal

pub returns-in-Some-clause-heard : goal.returns-in-Some-clause-heard
returns-in-Some-clause-heard g c = heard_last _ _ c.in-Some.envelope c.in-Some.ensures.taken.view

pub returns-in-Some-clause-taken : goal.returns-in-Some-clause-taken
returns-in-Some-clause-taken g c = record { came = Some c.in-Some.envelope; next_is = refl; taken = c.in-Some.ensures.taken }

pub returns-in-None-clause-taken : goal.returns-in-None-clause-taken
returns-in-None-clause-taken g c = record { came = None; next_is = refl; taken = c.in-None.ensures.taken }
