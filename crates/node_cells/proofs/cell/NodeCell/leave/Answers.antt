use Rattle.std.proofs.Common.{refl, subst}
use Rattle.raft_node.specs.Hosts.{hosted}
use Rattle.raft_node.specs.Machine.{Machine}
use Rattle.raft_node.specs.Parts.{Keeper, keeper}
use Rattle.node_cells.specs.declared.record.NodeRecord.{NodeRecord}
use Rattle.node_cells.specs.Cells.{CellRoom, cell_of}
use Rattle.node_cells.specs.Openings.{IsClosed}
use Rattle.node_cells.proofs.Opening.{closed_cell}
use Rattle.node_cells.proofs.cell.NodeCell.leave.Given as given
use Rattle.node_cells.proofs.cell.NodeCell.leave.Goals as goal

abbrev machine : (g : given.Over) → g.row.M-Setup.Denot → Machine
machine g s =
    hosted g.M.Hosted.blank g.M.Hosted.opened g.M.Hosted.shut g.M.Hosted.heard g.M.Hosted.claim g.M.Hosted.source (g.M.Machine.effects s)
    (g.M.Hosted.next_claim s) (g.M.Hosted.playback s) g.M.Hosted.class

abbrev kept : (g : given.Over) → Keeper g.row.S.Denot g.row.M-Command.Denot
kept g = keeper g.S.Stable.saved g.S.Stable.may_stand g.S.Stable.condition

pub returns-clause-record : goal.returns-clause-record
returns-clause-record g c =
    let i = c.self.inside in
    let r : NodeRecord g.row.M-Command.Denot g.row.M-Line.Denot g.row.M-Target.Denot g.row.M-Effect.Denot g.row.M-Played.Denot = record { node = c.id-node.result; turns = c.into_parts-pass.result.1; state = i.shown } in
    subst (λ (z : CellRoom g.row.M-Setup.Denot g.row.M.Denot g.row.S.Denot g.row.M-Command.Denot g.row.M-Line.Denot g.row.M-Target.Denot g.row.M-Effect.Denot g.row.M-Played.Denot g.row.U.Denot).
    IsClosed (machine g z.parts.ether.setup) z.parts r) c.self.view_is
    (closed_cell (machine g i.book.ether.setup) (kept g) (cell_of i.book i.node i.upstream i.phase i.refused i.shown) r c.self.invariant.0 c.id-node.ensures c.into_parts-pass.ensures.1 refl)
