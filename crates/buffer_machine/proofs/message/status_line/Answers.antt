use Rattle.buffer_machine.proofs.message.status_line.Goals as goal

pub returns : goal.returns
returns c = rw c.as_bytes.ensures.value at c.of_parts.ensures
