use Rattle.client_gate.proofs.messages.refuse_channel.Goals as goal

pub returns : goal.returns
returns c = rw (← c.told_word.ensures, ← c.as_bytes.ensures.value) c.reply.ensures
