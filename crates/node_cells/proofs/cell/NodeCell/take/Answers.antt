use Rattle.std.proofs.Common.{sym, subst}
use Rattle.raft_node.specs.Hosts.{hosted}
use Rattle.raft_node.specs.Machine.{Machine}
use Rattle.raft_node.specs.Parts.{Keeper, keeper}
use Rattle.ether.specs.Passes.{EtherParts, view_of}
use Rattle.node_cells.specs.Books.{IsBook}
use Rattle.node_cells.specs.Cells.{IsCell, cell_of}
use Rattle.node_cells.proofs.MarksKept.{taken_keeps}
use Rattle.node_cells.proofs.Opening.{taken_cell}
use Rattle.node_cells.proofs.cell.NodeCell.take.Given as given
use Rattle.node_cells.proofs.cell.NodeCell.take.Goals as goal

abbrev machine : (g : given.Over) → g.row.M-Setup.Denot → Machine
machine g s =
    hosted g.M.Hosted.blank g.M.Hosted.opened g.M.Hosted.shut g.M.Hosted.heard g.M.Hosted.claim g.M.Hosted.source (g.M.Machine.effects s)
    (g.M.Hosted.next_claim s) (g.M.Hosted.playback s) g.M.Hosted.class

abbrev kept : (g : given.Over) → Keeper g.row.S.Denot g.row.M-Command.Denot
kept g = keeper g.S.Stable.saved g.S.Stable.may_stand g.S.Stable.condition

pub invariant_of-self : goal.invariant_of-self
invariant_of-self g c =
    let i = c.self.inside in (
      subst (λ (e : EtherParts g.row.M-Setup.Denot). IsCell (machine g e.setup) (kept g) (cell_of c.take-came.new.self i.node i.upstream i.phase i.refused i.shown)) (sym c.take-came.ensures.taken.ether)
          (taken_cell (machine g i.book.ether.setup) (kept g) i.book c.take-came.new.self i.node i.upstream i.phase i.refused i.shown c.args.from c.take-came.result c.self.invariant.0 c.take-came.ensures.taken
          (subst (λ (e : EtherParts g.row.M-Setup.Denot). IsBook (machine g e.setup) c.take-came.new.self) c.take-came.ensures.taken.ether c.is_whole.ensures)),
      taken_keeps (machine g i.book.ether.setup) g.M.Marking.marked (view_of i.book.pass) (view_of c.take-came.new.self.pass) i.asked i.reached c.self.invariant.1 c.take-came.result c.take-came.ensures.taken.view,
    )
