use Rattle.std.proofs.Common.{◌≡◌, ◌+◌, ◌≤◌, ◌∷◌, [], ◌++◌, replicate, ap, ◌∙◌, arith}
use Rattle.raft_node.specs.Raft.{newborn}
use Rattle.world_run.proofs.Cells.{one_more}
use Rattle.world_run.proofs.group.Group.start.Goals as goal

pub loop-last-preserved : goal.loop-last-preserved
loop-last-preserved g c =
    let added : c.push.new.self.items ≡ c.loop-last.cells.items ++ c.in_ok-cell.cell ∷ [] = c.in_ok-push.ensures.items in
    let within : c.loop-last.last + 1 ≤ c.args.size = omega (arith, c.loop-last-test.true, c.value-in-loop-last.ensures.value) in
    let r = one_more _ _ _ _ c.loop-last.cells.items c.push.new.self.items c.in_ok-cell.cell (newborn c.args.size) added c.loop-last.invariant.0 c.loop-last.invariant.2 c.loop-last.invariant.3 c.new.ensures c.in_ok-cell.ensures.cell c.in_ok-cell.ensures.runs in
    (r.0, within, r.1, r.2)

pub returns-clause-nodes : goal.returns-clause-nodes
returns-clause-nodes g c =
    let all : c.loop-last.last ≡ c.args.size = omega (arith, c.loop-last-test.false, c.value-in-loop-last.ensures.value, c.loop-last.invariant.1) in
    c.loop-last.invariant.3 ∙ ap (λ n. replicate n (newborn c.args.size)) all
