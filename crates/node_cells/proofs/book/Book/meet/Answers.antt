use Rattle.std.proofs.Common.{None, sym, subst, ap, ◌∙◌}
use Rattle.raft_node.specs.Hosts.{hosted}
use Rattle.raft_node.specs.Machine.{Machine}
use Rattle.ether.specs.Passes.{EtherParts, IsPass, IsSamePass}
use Rattle.node_cells.specs.Books.{BookParts}
use Rattle.node_cells.proofs.Recorded.{taken_book}
use Rattle.node_cells.proofs.book.Book.meet.Given as given
use Rattle.node_cells.proofs.book.Book.meet.Goals as goal

abbrev machine : (g : given.Over) → g.row.M-Setup.Denot → Machine
machine g s =
    hosted g.M.Hosted.blank g.M.Hosted.opened g.M.Hosted.shut g.M.Hosted.heard g.M.Hosted.claim g.M.Hosted.source (g.M.Machine.effects s)
    (g.M.Hosted.next_claim s) (g.M.Hosted.playback s) g.M.Hosted.class

abbrev BookOf : given.Over → Type 0
BookOf g = BookParts g.row.M-Setup.Denot g.row.M-Command.Denot g.row.M-Line.Denot g.row.M-Target.Denot g.row.M-Effect.Denot g.row.M-Played.Denot

pub invariant_of-self : goal.invariant_of-self
invariant_of-self g c =
    let i = c.self.inside in
    let q = c.meet.new.one in
    let same : IsSamePass i.pass q = c.meet.ensures.one.1 in
    let pass = subst (λ (e : EtherParts g.row.M-Setup.Denot). IsPass e q) c.deref.ensures c.meet.ensures.one.0 in
    taken_book (machine g i.ether.value.setup) i.ether.value i.recording i.pass q i.turns.items i.sent None c.self.invariant (pass, same.3 c.self.invariant.opened.1) same.0

pub invariant_of-other : goal.invariant_of-other
invariant_of-other g c =
    let i = c.other.inside in
    let q = c.meet.new.other in
    let same : IsSamePass i.pass q = c.meet.ensures.other.1 in
    let first = ap (λ (z : BookOf g). z.ether) c.self.view_is in
    let second = ap (λ (z : BookOf g). z.ether) c.other.view_is in
    let pass = subst (λ (e : EtherParts g.row.M-Setup.Denot). IsPass e q) (c.deref.ensures ∙ (first ∙ (c.requires ∙ sym second))) c.meet.ensures.other.0 in
    taken_book (machine g i.ether.value.setup) i.ether.value i.recording i.pass q i.turns.items i.sent None c.other.invariant (pass, same.3 c.other.invariant.opened.1) same.0
