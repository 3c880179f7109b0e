use Rattle.std.proofs.Common.{◌≤◌, inl, inr, length, sym, ap, ◌∙◌, arith}
use Rattle.raft_log.specs.Lists.{item}
use Rattle.world_run.proofs.Cells.{committed_at, none_at}
use Rattle.world_run.proofs.world.World.committed.Goals.{then-place-eq0-via-then-place-eq0, then-place-eq0-via-else-place-eq0+then-place-len}
use Rattle.world_run.proofs.world.World.committed.Goals as goal

pub returns-clause-some : goal.returns-clause-some
returns-clause-some g c =
    let le : c.args.node ≤ length c.self.inside.group.cells.items = omega (arith, c.if-place-len.false, c.len.ensures) in
    rw (sym c.self.view_is) (c.in_ok-committed.ensures ∙ committed_at _ _ c.index.result.now c.if-place-eq0.false le c.index.ensures)

pub returns-then-place-eq0-clause-none : goal.returns-then-place-eq0-clause-none
returns-then-place-eq0-clause-none g c =
    let cells = c.self.inside.group.cells.items in
    λ _. ap (λ w. item w.nodes c.args.node) (sym c.self.view_is)
    ∙ elim c.then-place-eq0.branch [
      | then-place-eq0-via-then-place-eq0 w ↦ none_at c.args.node cells (inl w.if-place-eq0.true)
      | then-place-eq0-via-else-place-eq0+then-place-len w ↦ none_at c.args.node cells (inr (omega (arith, w.if-place-len.true, w.len.ensures)))
    ]
