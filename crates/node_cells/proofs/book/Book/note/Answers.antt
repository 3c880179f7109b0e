use Rattle.std.proofs.Common.{rules, ◌+◌, ◌-◌, ◌≡◌, ◌≤◌, true, suc, sym, subst, ◌∙◌}
use Rattle.raft_node.specs.Hosts.{hosted}
use Rattle.raft_node.specs.Machine.{Machine}
use Rattle.world_run.specs.Told.{out_of}
use Rattle.world_views.specs.Own.{own_out}
use Rattle.ether.specs.Passes.{IsHeard, view_of}
use Rattle.node_cells.specs.Books.{BookParts, noted, room_for}
use Rattle.node_cells.proofs.Recorded.{noted_book, room_taken}
use Rattle.node_cells.proofs.book.Book.note.Given as given
use Rattle.node_cells.proofs.book.Book.note.Goals as goal

abbrev machine : (g : given.Over) → g.row.M-Setup.Denot → Machine
machine g s =
    hosted g.M.Hosted.blank g.M.Hosted.opened g.M.Hosted.shut g.M.Hosted.heard g.M.Hosted.claim g.M.Hosted.source (g.M.Machine.effects s)
    (g.M.Hosted.next_claim s) (g.M.Hosted.playback s) g.M.Hosted.class

abbrev BookOf : given.Over → Type 0
BookOf g = BookParts g.row.M-Setup.Denot g.row.M-Command.Denot g.row.M-Line.Denot g.row.M-Target.Denot g.row.M-Effect.Denot g.row.M-Played.Denot

pub tick-requires-clause-heard : goal.tick-requires-clause-heard
tick-requires-clause-heard g c = subst (λ (z : BookOf g). IsHeard (view_of z.pass) c.args.event.told.value) (sym c.self.view_is) c.requires.heard

pub invariant_of-self : goal.invariant_of-self
invariant_of-self g c =
    let i = c.self.inside in
    let same : i.recording ≡ c.args.self.now.recording = search rules in
    let kept = c.keep.ensures.kept c.args.event.told.value c.args.outcome.told.value (λ on. c.requires.kept.0 (sym same ∙ on)) (λ on. c.requires.kept.1 (sym same ∙ on)) in
    let out = subst (λ (z : BookOf g). (view_of z.pass).honest ≡ true → out_of (machine g z.ether.setup) c.args.outcome.told.value ≡ own_out (machine g z.ether.setup) (view_of z.pass).size (suc (view_of z.pass).node) (view_of z.pass).state c.args.event.told.value) (sym c.self.view_is) c.requires.out in
    noted_book (machine g i.ether.value.setup) i.ether.value i.recording i.pass c.tick.new.pass i.turns.items c.keep.new.turns.items i.sent c.in-Ok.ticket c.args.event.told.value c.args.outcome.told.value c.self.invariant (search rules) (search rules) kept out

pub returns : goal.returns
returns g c =
    let i = c.self.inside in
    let new = c.keep.new.turns in
    let same : i.recording ≡ c.args.self.now.recording = search rules in
    let kept = c.keep.ensures.kept c.args.event.told.value c.args.outcome.told.value (λ on. c.requires.kept.0 (sym same ∙ on)) (λ on. c.requires.kept.1 (sym same ∙ on)) in
    let enough : room_for i.recording 1 ≤ i.turns.cap - i.turns.len = subst (λ (z : BookOf g). room_for z.recording 1 ≤ z.room) (sym c.self.view_is) c.requires.room.0 in
    let turn = noted (machine g i.ether.value.setup) c.in-Ok.ticket c.args.event.told.value c.args.outcome.told.value in
    record {
      ticket = c.in-Ok.ticket;
      view = search rules;
      recording = search rules;
      turns = search (rules, kept);
      ether = search rules;
      node = search rules;
      sent = search rules;
      room = subst (λ (z : BookOf g). (new.cap - new.len) + room_for z.recording 1 ≡ z.room) c.self.view_is
          (room_taken i.recording i.turns.items new.items turn i.turns.len new.len i.turns.cap new.cap i.turns.ok.0 new.ok.0 c.keep.ensures.room kept enough);
    }
