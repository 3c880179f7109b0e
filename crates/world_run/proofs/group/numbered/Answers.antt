use Rattle.std.proofs.Common.{Some, ap, ◌∙◌}
use Rattle.world_run.proofs.Cells.{message_at, no_message_at}
use Rattle.world_run.proofs.group.numbered.Goals as goal

pub returns-then-number-eq0 : goal.returns-then-number-eq0
returns-then-number-eq0 g c = no_message_at c.args.messages.now c.args.number c.then-number-eq0.either

pub returns : goal.returns
returns g c =
    ap (λ m. Some m) c.in_ok-copy.ensures
    ∙ message_at c.args.messages.now c.args.number c.index-messages-number.result c.if-number-eq0.false c.if-number-messages.false c.index-messages-number.is
