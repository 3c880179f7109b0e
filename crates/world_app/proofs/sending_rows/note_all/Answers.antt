use Rattle.std.proofs.Common.{refl, sym, arith}
use Rattle.world_run.specs.Groups.{nodes_in}
use Rattle.world_app.proofs.Found.{count_is}
use Rattle.world_app.proofs.Noted.{one_noted}
use Rattle.world_app.proofs.sending_rows.note_all.Goals as goal

pub loop-index-preserved : goal.loop-index-preserved
loop-index-preserved g c =
    let cells = c.args.cells.now in
    let index = c.loop-index.index in
    one_noted c.args.row index _ (nodes_in cells) c.args.rows.now.items c.loop-index.rows.items _ c.index_mut.result.now c.note.new.rows
    (omega (arith, c.loop-index-test.true, c.requires)) c.index_mut.ensures.value (sym (count_is cells index c.index-cells-index.result c.sent.result.now c.loop-index-test.true c.index-cells-index.is c.sent.ensures))
    c.in_ok-note.ensures refl c.loop-index.invariant
