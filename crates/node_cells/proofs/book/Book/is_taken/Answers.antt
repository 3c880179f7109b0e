use Rattle.std.proofs.Common.{None, subst}
use Rattle.raft_node.specs.Hosts.{hosted}
use Rattle.raft_node.specs.Machine.{Machine}
use Rattle.ether.specs.Passes.{EtherParts, IsPass}
use Rattle.node_cells.proofs.Recorded.{taken_book}
use Rattle.node_cells.proofs.book.Book.is_taken.Given as given
use Rattle.node_cells.proofs.book.Book.is_taken.Goals as goal

abbrev machine : (g : given.Over) → g.row.M-Setup.Denot → Machine
machine g s =
    hosted g.M.Hosted.blank g.M.Hosted.opened g.M.Hosted.shut g.M.Hosted.heard g.M.Hosted.claim g.M.Hosted.source (g.M.Machine.effects s)
    (g.M.Hosted.next_claim s) (g.M.Hosted.playback s) g.M.Hosted.class

pub invariant_of-self : goal.invariant_of-self
invariant_of-self g c =
    let i = c.self.inside in
    let pass = subst (λ (e : EtherParts g.row.M-Setup.Denot). IsPass e c.is_taken.new.pass) c.deref.ensures c.is_taken.ensures.pass.0 in
    taken_book (machine g i.ether.value.setup) i.ether.value i.recording i.pass c.is_taken.new.pass i.turns.items i.sent None c.self.invariant (pass, c.is_taken.ensures.open c.self.invariant.opened.1) c.is_taken.ensures.view
