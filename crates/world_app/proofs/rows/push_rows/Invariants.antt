use Rattle.std.proofs.Common.{◌≡◌, ◌++◌, drop, flat_map}
use Rattle.world_app.specs.Picture.{row_text}
use Rattle.world_app.proofs.rows.push_rows.Given as goal

abbrev pub invariant-loop-row : goal.invariant-loop-row
invariant-loop-row l =
    l.out.items ++ flat_map row_text (drop l.row-index l.rows) ≡ l.initial.out.items ++ flat_map row_text l.rows
