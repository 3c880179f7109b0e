use Rattle.std.proofs.Common.{rules, ◌≡◌, ◌∷◌, ◌∙◌, [], List, true, suc, sym, subst, ap}
use Rattle.std.proofs.lemmas.List.{nil_from_length}
use Rattle.raft_node.specs.Hosts.{hosted}
use Rattle.raft_node.specs.Machine.{Machine}
use Rattle.world_run.specs.Told.{out_of}
use Rattle.world_views.specs.declared.node_event.NodeEvent.TheVariants.{Does}
use Rattle.world_views.specs.Inputs.{NodeInput}
use Rattle.world_views.specs.Own.{own_out}
use Rattle.ether.specs.Passes.{EtherParts, view_of}
use Rattle.node_cells.specs.declared.record.Recording.{Recording}
use Rattle.node_cells.specs.Copies.{AreCopies}
use Rattle.node_cells.proofs.Copies.{next_copy, none_left}
use Rattle.node_cells.proofs.Told.{heard_as, noted_as, out_as, whole_kept}
use Rattle.node_cells.specs.Books.{HasNoted, OutcomeOf}
use Rattle.node_cells.proofs.Noting.{Noting, noting_done, noting_first, noting_heard, noting_next, noting_out, noting_room}
use Rattle.node_cells.proofs.book.Book.note_all.Given as given
use Rattle.node_cells.proofs.book.Book.note_all.Goals as goal

abbrev machine : (g : given.Over) → g.row.M-Setup.Denot → Machine
machine g s =
    hosted g.M.Hosted.blank g.M.Hosted.opened g.M.Hosted.shut g.M.Hosted.heard g.M.Hosted.claim g.M.Hosted.source (g.M.Machine.effects s)
    (g.M.Hosted.next_claim s) (g.M.Hosted.playback s) g.M.Hosted.class

pub note-requires-clause-kept : goal.note-requires-clause-kept
note-requires-clause-kept g c =
    let x = c.in-Some.input in
    let left = c.next.new.self.rest.items in
    let now = c.loop-input.self in
    let rest : c.loop-input.input-iterator.rest.items ≡ x ∷ left = search rules in
    let took = next_copy now.recording x left c.loop-input.copies.rest.items c.next-copy.new.self.rest.items c.next-copy.result
    (subst (λ (l : List (NodeInput g.row.M-Command.Denot g.row.M-Line.Denot)). AreCopies now.recording l c.loop-input.copies.rest.items) rest c.loop-input.invariant.0) c.next-copy.ensures.items (λ e. sym c.loop-input.copies.rest.ok.0 ∙ none_left _ c.next-copy.result _ _ c.next-copy.ensures.cases e) in
    (c.done-event.ensures.kept now.recording took.0, whole_kept now.recording c.of-came.result c.outcome_by-outcome.result c.of-came.ensures)

pub note-requires-clause-room : goal.note-requires-clause-room
note-requires-clause-room g c =
    let x = c.in-Some.input in
    let left = c.next.new.self.rest.items in
    let old = c.args.self.now in
    let now = c.loop-input.self in
    let M = machine g old.ether.setup in
    let rest : c.loop-input.input-iterator.rest.items ≡ x ∷ left = search rules in
    let noting = subst (λ (l : List (NodeInput g.row.M-Command.Denot g.row.M-Line.Denot)). Noting M old now c.args.inputs.items l c.args.answers.now c.loop-input.done) rest c.loop-input.invariant.1 in
    noting_room M old now c.args.inputs.items x left c.args.answers.now c.loop-input.done noting

pub loop-input-init : goal.loop-input-init
loop-input-init g c =
    let now = c.args.self.now in
    let all = c.into_iter-input-iterator.ensures.into_iter_gives.0 in
    let M = machine g now.ether.setup in (
      λ on. c.into_iter-copies.ensures.rest ∙ c.requires.copied on ∙ sym all,
      subst (λ (l : List (NodeInput g.row.M-Command.Denot g.row.M-Line.Denot)). Noting M now now c.args.inputs.items l c.args.answers.now 0) (sym all)
          (noting_first M now c.args.inputs.items c.args.answers.now c.requires.appends c.requires.enough c.requires.room.0 c.requires.room.1 c.requires.answered),
    )

pub note-requires-clause-heard : goal.note-requires-clause-heard
note-requires-clause-heard g c =
    let x = c.in-Some.input in
    let left = c.next.new.self.rest.items in
    let old = c.args.self.now in
    let now = c.loop-input.self in
    let M = machine g old.ether.setup in
    let rest : c.loop-input.input-iterator.rest.items ≡ x ∷ left = search rules in
    let noting = subst (λ (l : List (NodeInput g.row.M-Command.Denot g.row.M-Line.Denot)). Noting M old now c.args.inputs.items l c.args.answers.now c.loop-input.done) rest c.loop-input.invariant.1 in
    heard_as (view_of now.pass) c.done-event.result.told.value (Does x) c.done-event.ensures.told (noting_heard M old now c.args.inputs.items x left c.args.answers.now c.loop-input.done noting)

pub note-requires-clause-out : goal.note-requires-clause-out
note-requires-clause-out g c =
    let x = c.in-Some.input in
    let left = c.next.new.self.rest.items in
    let old = c.args.self.now in
    let now = c.loop-input.self in
    let M = machine g old.ether.setup in
    let rest : c.loop-input.input-iterator.rest.items ≡ x ∷ left = search rules in
    let noting = subst (λ (l : List (NodeInput g.row.M-Command.Denot g.row.M-Line.Denot)). Noting M old now c.args.inputs.items l c.args.answers.now c.loop-input.done) rest c.loop-input.invariant.1 in
    out_as (machine g now.ether.setup) (view_of now.pass) c.done-event.result.told.value (Does x) c.of-came.result.told.value c.outcome_by-outcome.result c.done-event.ensures.told c.of-came.ensures.0
    (subst (λ (e : EtherParts g.row.M-Setup.Denot). (view_of now.pass).honest ≡ true → out_of (machine g e.setup) c.outcome_by-outcome.result ≡ own_out (machine g e.setup) (view_of now.pass).size (suc (view_of now.pass).node) (view_of now.pass).state (Does x))
    (sym noting.ether)
    (λ honest. ap (λ (o : OutcomeOf M). out_of M o) c.outcome_by-outcome.ensures
    ∙ noting_out M old now c.args.inputs.items x left c.args.answers.now c.loop-input.done noting c.index-answers-done.result (sym c.index-answers-done.is) honest))

pub loop-input-preserved : goal.loop-input-preserved
loop-input-preserved g c =
    let x = c.in-Some.input in
    let left = c.next.new.self.rest.items in
    let old = c.args.self.now in
    let now = c.loop-input.self in
    let M = machine g old.ether.setup in
    let rest : c.loop-input.input-iterator.rest.items ≡ x ∷ left = search rules in
    let noting = subst (λ (l : List (NodeInput g.row.M-Command.Denot g.row.M-Line.Denot)). Noting M old now c.args.inputs.items l c.args.answers.now c.loop-input.done) rest c.loop-input.invariant.1 in
    let this = noted_as (machine g now.ether.setup) now c.note.new.self c.done-event.result.told.value (Does x) c.of-came.result.told.value c.outcome_by-outcome.result c.done-event.ensures.told c.of-came.ensures.0 c.note.ensures in
    let one : HasNoted M now (Does x) c.outcome_by-outcome.result c.note.new.self =
    subst (λ (e : EtherParts g.row.M-Setup.Denot). HasNoted (machine g e.setup) now (Does x) c.outcome_by-outcome.result c.note.new.self) noting.ether this in (
      subst (λ (r : Recording). AreCopies r left c.next-copy.new.self.rest.items) (sym this.recording) (next_copy now.recording x left c.loop-input.copies.rest.items c.next-copy.new.self.rest.items c.next-copy.result
          (subst (λ (l : List (NodeInput g.row.M-Command.Denot g.row.M-Line.Denot)). AreCopies now.recording l c.loop-input.copies.rest.items) rest c.loop-input.invariant.0) c.next-copy.ensures.items (λ e. sym c.loop-input.copies.rest.ok.0 ∙ none_left _ c.next-copy.result _ _ c.next-copy.ensures.cases e)).1,
      noting_next M old now c.args.inputs.items x left c.args.answers.now c.loop-input.done noting c.index-answers-done.result (sym c.index-answers-done.is) c.note.new.self
          (subst (λ (o : OutcomeOf M). HasNoted M now (Does x) o c.note.new.self) c.outcome_by-outcome.ensures one),
    )

pub returns : goal.returns
returns g c =
    let left = c.loop-input.input-iterator.rest.items in
    let none : left ≡ [] = nil_from_length left (sym c.loop-input.input-iterator.rest.ok.0 ∙ c.in-None.ensures.steps.0) in
    noting_done (machine g c.args.self.now.ether.setup) c.args.self.now c.loop-input.self c.args.inputs.items left c.args.answers.now c.loop-input.done c.loop-input.invariant.1 none
