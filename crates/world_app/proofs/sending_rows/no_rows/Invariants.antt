use Rattle.std.proofs.Common.{◌≤◌}
use Rattle.world_app.specs.SendingRows.{AreEmpty}
use Rattle.world_app.proofs.sending_rows.no_rows.Given as goal

abbrev pub invariant-loop : goal.invariant-loop
invariant-loop l = (l.counter ≤ l.size) × AreEmpty l.counter l.rows.items
