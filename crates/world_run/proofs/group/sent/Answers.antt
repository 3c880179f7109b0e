use Rattle.std.proofs.Common.{◌≤◌, ◌-◌, length, get_or, ap, ◌∙◌, arith}
use Rattle.raft_log.proofs.Sending.{ok_map}
use Rattle.world_run.proofs.Cells.{sent_at, no_sender_at}
use Rattle.world_run.proofs.group.sent.Goals as goal

pub returns-then-place-cells : goal.returns-then-place-cells
returns-then-place-cells g c = no_sender_at c.args.sender c.args.number c.args.cells.now (omega (arith, c.if-place-cells.true, c.value-place.ensures.value))

pub returns : goal.returns
returns g c =
    let le : c.args.sender ≤ length c.args.cells.now = omega (arith, c.if-place-cells.false, c.value-place.ensures.value) in
    let cell = c.index-cells-place.result in
    let at = c.index-cells-place.is ∙ ap (λ n. get_or c.args.cells.now (n - 1) cell) c.value-place.ensures.value in
    let is = sent_at c.args.sender c.args.number c.args.cells.now cell c.sent.result.now c.value-place.ensures.limits.0 le at c.sent.ensures in
    ok_map c.numbered.result (λ m h. h ∙ is) c.numbered.ensures
