use Rattle.std.proofs.Common.{◌∙◌, sym}
use Rattle.renewal.proofs.LastLive.{noted_still}
use Rattle.renewal.proofs.noting.note_before.Goals as goal

pub returns-else-may_end : goal.returns-else-may_end
returns-else-may_end c = λ s h place st w. noted_still s h place c.args.body.now c.args.joined.now.items (sym c.may_end.ensures ∙ c.if-may_end.false) w
