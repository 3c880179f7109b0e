use Rattle.records.proofs.LineFronts.{no_size, size_of_number}
use Rattle.records.proofs.items.group_size.Goals as goal

pub returns-then-number-le7 : goal.returns-then-number-le7
returns-then-number-le7 c = size_of_number c.args.word.now c.in-Some.number c.new.result c.in-Some.ensures.0 c.in-Some.ensures.1 c.new.ensures.value c.new.ensures.allowed

pub returns-else-number-le7 : goal.returns-else-number-le7
returns-else-number-le7 c = no_size c.args.word.now c.in-Some.number c.in-Some.ensures.0 c.in-Some.ensures.1 c.if-number-le7.false
