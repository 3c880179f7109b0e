use Rattle.std.proofs.Common.{suc, sym, subst}
use Rattle.raft_node.specs.Hosts.{hosted}
use Rattle.raft_node.specs.Machine.{Machine}
use Rattle.raft_node.specs.Parts.{Keeper, keeper}
use Rattle.ether.specs.Passes.{view_of}
use Rattle.node_cells.specs.Books.{BookParts}
use Rattle.node_cells.specs.Cells.{IsCell, cell_of}
use Rattle.node_cells.specs.Marks.{KnowsMarks}
use Rattle.node_cells.proofs.Opening.{same_but}
use Rattle.node_cells.proofs.cell.NodeCell.make_room.Given as given
use Rattle.node_cells.proofs.cell.NodeCell.make_room.Goals as goal

abbrev machine : (g : given.Over) → g.row.M-Setup.Denot → Machine
machine g s =
    hosted g.M.Hosted.blank g.M.Hosted.opened g.M.Hosted.shut g.M.Hosted.heard g.M.Hosted.claim g.M.Hosted.source (g.M.Machine.effects s)
    (g.M.Hosted.next_claim s) (g.M.Hosted.playback s) g.M.Hosted.class

abbrev kept : (g : given.Over) → Keeper g.row.S.Denot g.row.M-Command.Denot
kept g = keeper g.S.Stable.saved g.S.Stable.may_stand g.S.Stable.condition

abbrev BookOf : given.Over → Type 0
BookOf g = BookParts g.row.M-Setup.Denot g.row.M-Command.Denot g.row.M-Line.Denot g.row.M-Target.Denot g.row.M-Effect.Denot g.row.M-Played.Denot

pub invariant_of-self : goal.invariant_of-self
invariant_of-self g c =
    let i = c.self.inside in
    subst (λ (b : BookOf g). IsCell (machine g b.ether.setup) (kept g) (cell_of b i.node i.upstream i.phase i.refused i.shown) × KnowsMarks g.M.Marking.marked (view_of b.pass) i.asked i.reached)
    (sym (same_but i.book c.reserve.new.self (suc c.args.count) c.reserve.result c.reserve.ensures)) c.self.invariant
