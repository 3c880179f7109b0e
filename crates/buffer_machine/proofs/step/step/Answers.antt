use Rattle.std.proofs.Common.{refl}
use Rattle.buffer_machine.proofs.step.step.Goals as goal

pub returns-in-Upstream-clause-held : goal.returns-in-Upstream-clause-held
returns-in-Upstream-clause-held c = rw (c.in-Upstream.is, ← c.line.ensures.value) c.hear.ensures.held

pub returns-in-NodeGone-clause-held : goal.returns-in-NodeGone-clause-held
returns-in-NodeGone-clause-held c = rw (c.in-NodeGone.is, c.remove_below.ensures, c.remove_below-in-NodeGone.ensures) refl
