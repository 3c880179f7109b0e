use Rattle.client_gate.proofs.writing.push_status.Goals as goal

pub returns : goal.returns
returns c = rw (← c.as_bytes.ensures.value) c.push_line.ensures
