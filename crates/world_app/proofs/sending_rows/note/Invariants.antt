use Rattle.std.proofs.Common.{◌≡◌, ◌++◌, ◌-◌, length, replicate, vec_len}
use Rattle.world_app.proofs.sending_rows.note.Given as goal

abbrev pub invariant-loop-rows : goal.invariant-loop-rows
invariant-loop-rows l =
    l.rows.items ++ replicate (l.count - length l.rows.items) l.row ≡ l.initial.rows.items ++ replicate (l.count - length l.initial.rows.items) l.row

abbrev pub decreases-loop-rows : goal.decreases-loop-rows
decreases-loop-rows l = l.count - vec_len l.rows
