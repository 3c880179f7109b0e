use Rattle.std.proofs.Common.{sym, subst}
use Rattle.raft_node.specs.Hosts.{hosted}
use Rattle.raft_node.specs.Machine.{Machine}
use Rattle.raft_node.specs.Parts.{Keeper, keeper}
use Rattle.ether.specs.Passes.{EtherParts, view_of}
use Rattle.node_cells.specs.Books.{IsBook}
use Rattle.node_cells.specs.Cells.{IsCell, cell_of}
use Rattle.node_cells.proofs.MarksKept.{same_keeps}
use Rattle.node_cells.proofs.Opening.{met_cell}
use Rattle.node_cells.proofs.cell.NodeCell.meet.Given as given
use Rattle.node_cells.proofs.cell.NodeCell.meet.Goals as goal

abbrev machine : (g : given.Over) → g.row.M-Setup.Denot → Machine
machine g s =
    hosted g.M.Hosted.blank g.M.Hosted.opened g.M.Hosted.shut g.M.Hosted.heard g.M.Hosted.claim g.M.Hosted.source (g.M.Machine.effects s)
    (g.M.Hosted.next_claim s) (g.M.Hosted.playback s) g.M.Hosted.class

abbrev kept : (g : given.Over) → Keeper g.row.S.Denot g.row.M-Command.Denot
kept g = keeper g.S.Stable.saved g.S.Stable.may_stand g.S.Stable.condition

pub invariant_of-self : goal.invariant_of-self
invariant_of-self g c =
    let i = c.self.inside in
    let b = c.meet.new.self in
    let same = c.meet.ensures.one in (
      subst (λ (e : EtherParts g.row.M-Setup.Denot). IsCell (machine g e.setup) (kept g) (cell_of b i.node i.upstream i.phase i.refused i.shown)) (sym same.ether)
          (met_cell (machine g i.book.ether.setup) (kept g) i.book b i.node i.upstream i.phase i.refused i.shown c.self.invariant.0 same
          (subst (λ (e : EtherParts g.row.M-Setup.Denot). IsBook (machine g e.setup) b) same.ether c.is_whole.ensures)),
      same_keeps (machine g i.book.ether.setup) g.M.Marking.marked (view_of i.book.pass) (view_of b.pass) i.asked i.reached c.self.invariant.1 same.view,
    )

pub invariant_of-other : goal.invariant_of-other
invariant_of-other g c =
    let i = c.other.inside in
    let b = c.meet.new.other in
    let same = c.meet.ensures.other in (
      subst (λ (e : EtherParts g.row.M-Setup.Denot). IsCell (machine g e.setup) (kept g) (cell_of b i.node i.upstream i.phase i.refused i.shown)) (sym same.ether)
          (met_cell (machine g i.book.ether.setup) (kept g) i.book b i.node i.upstream i.phase i.refused i.shown c.other.invariant.0 same
          (subst (λ (e : EtherParts g.row.M-Setup.Denot). IsBook (machine g e.setup) b) same.ether c.is_whole-2.ensures)),
      same_keeps (machine g i.book.ether.setup) g.M.Marking.marked (view_of i.book.pass) (view_of b.pass) i.asked i.reached c.other.invariant.1 same.view,
    )
