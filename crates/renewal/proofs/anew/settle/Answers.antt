use Rattle.std.proofs.Common.{◌∙◌}
use Rattle.renewal.specs.Lists.{settling}
use Rattle.renewal.proofs.anew.settle.Goals as goal

pub returns-in-Ok : goal.returns-in-Ok
returns-in-Ok c = λ s old st. c.in-Ok.ensures s old (settling c.args.floors.now) (c.deref.ensures.value ∙ c.in_ok-bodies.ensures) st
