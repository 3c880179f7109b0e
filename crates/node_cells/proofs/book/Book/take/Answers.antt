use Rattle.std.proofs.Common.{◌-◌, ◌≡◌, ◌++◌, ◌∷◌, [], refl, subst}
use Rattle.raft_node.specs.Hosts.{hosted}
use Rattle.raft_node.specs.Machine.{Machine}
use Rattle.ether.specs.Passes.{EtherParts, IsPass, looks_of}
use Rattle.ether.specs.Rule.{look_at, mailbox_of}
use Rattle.node_cells.specs.Books.{BookParts, HasTaken}
use Rattle.node_cells.proofs.Recorded.{taken_book}
use Rattle.node_cells.proofs.book.Book.take.Given as given
use Rattle.node_cells.proofs.book.Book.take.Goals as goal

abbrev machine : (g : given.Over) → g.row.M-Setup.Denot → Machine
machine g s =
    hosted g.M.Hosted.blank g.M.Hosted.opened g.M.Hosted.shut g.M.Hosted.heard g.M.Hosted.claim g.M.Hosted.source (g.M.Machine.effects s)
    (g.M.Hosted.next_claim s) (g.M.Hosted.playback s) g.M.Hosted.class

abbrev BookOf : given.Over → Type 0
BookOf g = BookParts g.row.M-Setup.Denot g.row.M-Command.Denot g.row.M-Line.Denot g.row.M-Target.Denot g.row.M-Effect.Denot g.row.M-Played.Denot

pub invariant_of-self : goal.invariant_of-self
invariant_of-self g c =
    let i = c.self.inside in
    let pass = subst (λ (e : EtherParts g.row.M-Setup.Denot). IsPass e c.take.new.pass) c.deref.ensures c.take.ensures.pass.0 in
    taken_book (machine g i.ether.value.setup) i.ether.value i.recording i.pass c.take.new.pass i.turns.items i.sent c.take.result c.self.invariant (pass, c.take.ensures.open c.self.invariant.opened.1) c.take.ensures.view

pub returns-clause-taken : goal.returns-clause-taken
returns-clause-taken g c =
    let i = c.self.inside in
    let new : BookOf g = record { ether = i.ether.value; pass = c.take.new.pass; recording = i.recording; turns = i.turns.items; sent = i.sent; room = i.turns.cap - i.turns.len } in
    let looks = subst (λ (e : EtherParts g.row.M-Setup.Denot). looks_of c.take.new.pass ≡ looks_of i.pass ++ look_at (mailbox_of e.size c.args.from i.pass.node) c.take.result ∷ []) c.deref.ensures c.take.ensures.looks in
    subst (λ (z : BookOf g). HasTaken z c.args.from c.take.result new) c.self.view_is
    (record { view = c.take.ensures.view; looks = looks; recording = refl; turns = refl; ether = refl; node = c.take.ensures.pass.1; sent = refl })
