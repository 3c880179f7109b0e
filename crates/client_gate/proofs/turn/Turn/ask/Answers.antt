use Rattle.std.proofs.Common.{sym, ◌∙◌}
use Rattle.client_gate.proofs.turn.Turn.ask.Goals as goal

pub returns-else-has_room : goal.returns-else-has_room
returns-else-has_room c = rw (sym c.has_room.ensures ∙ c.if-has_room.false) c.tell.ensures
