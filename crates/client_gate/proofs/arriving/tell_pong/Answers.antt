use Rattle.client_gate.proofs.arriving.tell_pong.Goals as goal

pub returns : goal.returns
returns c = rw (← c.parameter.ensures.value) c.reply.ensures
