use Rattle.std.proofs.Common.{arith, ◌+◌, ◌*◌, ◌-◌, ◌≡◌, ◌≤◌, ◌∷◌, [], Some, length, refl, suc, sym, true, ap, subst, ◌∙◌, ℕ}
use Rattle.raft_node.specs.Hosts.{hosted}
use Rattle.raft_node.specs.Machine.{Machine}
use Rattle.raft_log.specs.Lists.{item}
use Rattle.ether.specs.Passes.{EtherParts, IsOpenPass, view_of}
use Rattle.ether.specs.Plays.{after_post}
use Rattle.node_cells.specs.Books.{BookParts, HasPosted}
use Rattle.node_cells.specs.Posts.{MayGiveBack}
use Rattle.node_cells.specs.Sending.{AreWithin, StandFrom}
use Rattle.node_cells.proofs.Looping.{older_given}
use Rattle.node_cells.proofs.Recorded.{posted_book}
use Rattle.node_cells.proofs.book.Book.post.Given as given
use Rattle.node_cells.proofs.book.Book.post.Goals as goal

abbrev machine : (g : given.Over) → g.row.M-Setup.Denot → Machine
machine g s =
    hosted g.M.Hosted.blank g.M.Hosted.opened g.M.Hosted.shut g.M.Hosted.heard g.M.Hosted.claim g.M.Hosted.source (g.M.Machine.effects s)
    (g.M.Hosted.next_claim s) (g.M.Hosted.playback s) g.M.Hosted.class

abbrev BookOf : given.Over → Type 0
BookOf g = BookParts g.row.M-Setup.Denot g.row.M-Command.Denot g.row.M-Line.Denot g.row.M-Target.Denot g.row.M-Effect.Denot g.row.M-Played.Denot

pub post-requires-clause-sent : goal.post-requires-clause-sent
post-requires-clause-sent g c =
    let i = c.self.inside in
    let m = c.args.message in
    let within = subst (λ (z : BookOf g). AreWithin (suc z.pass.node) z.ether.size (m ∷ [])) (sym c.self.view_is) c.requires.within in
    let stand = subst (λ (z : BookOf g). (view_of z.pass).honest ≡ true → StandFrom (view_of z.pass).state.sent z.sent (m ∷ [])) (sym c.self.view_is) c.requires.stand in
    let next : suc i.sent ≡ i.sent + 1 = omega arith in (
      within.0 ∙ ap suc (sym c.self.invariant.opened.0.node),
      λ honest. subst (λ (n : ℕ). item (view_of i.pass).state.sent n ≡ Some m) next (stand honest).0,
    )

pub invariant_of-self : goal.invariant_of-self
invariant_of-self g c =
    let i = c.self.inside in
    let opened = subst (λ (e : EtherParts g.row.M-Setup.Denot). IsOpenPass e c.post.new.pass) c.deref.ensures c.post.ensures.open.0 in
    let few = subst (λ (z : BookOf g). z.sent + 1 ≤ 7 * length (view_of z.pass).turns) (sym c.self.view_is) c.requires.few in
    posted_book (machine g i.ether.value.setup) i.ether.value i.recording i.pass c.post.new.pass i.turns.items i.sent (i.sent + 1) (i.sent + 1) c.self.invariant opened c.post.ensures.view few

pub returns-clause-posted : goal.returns-clause-posted
returns-clause-posted g c =
    let i = c.self.inside in
    let new : BookOf g = record { ether = i.ether.value; pass = c.post.new.pass; recording = i.recording; turns = i.turns.items; sent = i.sent + 1; room = i.turns.cap - i.turns.len } in
    let next : i.sent + 1 ≡ suc i.sent = omega arith in
    subst (λ (z : BookOf g). HasPosted (machine g z.ether.setup) z 1 new) c.self.view_is
    (record {
      view = subst (λ (n : ℕ). view_of c.post.new.pass ≡ after_post (view_of i.pass) n) next c.post.ensures.view;
      recording = refl;
      turns = refl;
      ether = refl;
      node = c.post.ensures.open.1;
      sent = refl;
      room = refl;
    })

pub returns-clause-older : goal.returns-clause-older
returns-clause-older g c =
    let i = c.self.inside in
    subst (λ (z : BookOf g). MayGiveBack (view_of z.pass) c.args.message.to c.post.result) c.self.view_is
    (older_given (view_of i.pass) (record { number = i.sent + 1; message = c.args.message }) c.post.result c.post.ensures.older)
