use Rattle.world_run.specs.Groups.{nodes_in}
use Rattle.world_app.proofs.Noted.{AreNotedTo}
use Rattle.world_app.proofs.sending_rows.note_all.Given as goal

abbrev pub invariant-loop-index : goal.invariant-loop-index
invariant-loop-index g l = AreNotedTo l.row l.index (nodes_in l.cells) l.initial.rows.items l.rows.items
