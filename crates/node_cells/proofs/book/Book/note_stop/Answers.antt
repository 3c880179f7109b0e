use Rattle.std.proofs.Common.{Global, Option, None, Vec, false, rules, arith, ◌≡◌, ◌≤◌, ◌∷◌, ◌++◌, ◌+◌, ◌∙◌, [], List, Bool, true, suc, length, length-append, sym, subst, ap}
use Rattle.raft_node.specs.Hosts.{hosted}
use Rattle.raft_node.specs.Machine.{Machine}
use Rattle.world_run.specs.declared.outcome.Outcome.TheVariants.{Quiet}
use Rattle.world_views.specs.declared.node_event.NodeEvent.TheVariants.{StopIn}
use Rattle.world_views.specs.Inputs.{NodeInput}
use Rattle.ether.specs.Passes.{EtherParts, view_of}
use Rattle.std.specs.Prelude.{option_to_list}
use Rattle.node_cells.specs.declared.record.Recording.{Recording}
use Rattle.node_cells.specs.Copies.{AreCopies, IsCopy, IsKept}
use Rattle.node_cells.proofs.Copies.{first_copy, last_copy, none_left}
use Rattle.node_cells.proofs.Told.{heard_as, noted_as, out_as, whole_kept}
use Rattle.node_cells.specs.Books.{HasNoted, room_for}
use Rattle.node_cells.specs.Cells.{AreAnswered}
use Rattle.node_cells.specs.Inputs.{OnlyAppend}
use Rattle.node_cells.specs.Restarts.{HasNotedAll, stops_in}
use Rattle.node_cells.proofs.Noting.{first_appends, front_appends, heard_stopped, last_appends}
use Rattle.node_cells.proofs.Stopping.{answered_front, first_noted, last_noted, last_room, room_few, stop_out}
use Rattle.node_cells.proofs.book.Book.note_stop.Given as given
use Rattle.node_cells.proofs.book.Book.note_stop.Goals as goal

abbrev machine : (g : given.Over) → g.row.M-Setup.Denot → Machine
machine g s =
    hosted g.M.Hosted.blank g.M.Hosted.opened g.M.Hosted.shut g.M.Hosted.heard g.M.Hosted.claim g.M.Hosted.source (g.M.Machine.effects s)
    (g.M.Hosted.next_claim s) (g.M.Hosted.playback s) g.M.Hosted.class

abbrev InputOf : given.Over → Type 0
InputOf g = NodeInput g.row.M-Command.Denot g.row.M-Line.Denot

pub note-requires-clause-heard : goal.note-requires-clause-heard
note-requires-clause-heard g c =
    let v = view_of c.args.self.now.pass in
    heard_as v c.stopped-event.result.told.value (StopIn c.remove-first.result false) c.stopped-event.ensures.told
    (heard_stopped v c.remove-first.result false (first_appends c.args.inputs.items c.remove-first.result c.requires.some c.remove-first.ensures.value c.requires.appends))

pub note-requires-clause-kept : goal.note-requires-clause-kept
note-requires-clause-kept g c =
    let r = c.args.self.now.recording in
    let copy : IsCopy r c.remove-first.result c.first_of-copy.result =
    subst (λ (o : Option (InputOf g)). IsCopy r c.remove-first.result o) (sym c.first_of-copy.ensures)
    (first_copy r c.args.inputs.items c.args.copies.items c.remove-first.result c.requires.some c.remove-first.ensures.value c.requires.copied) in
    (c.stopped-event.ensures.kept r copy, whole_kept r c.of-outcome.result Quiet c.of-outcome.ensures)

pub note-requires-clause-out : goal.note-requires-clause-out
note-requires-clause-out g c =
    let M = machine g c.args.self.now.ether.setup in
    let v = view_of c.args.self.now.pass in
    out_as M v c.stopped-event.result.told.value (StopIn c.remove-first.result false) c.of-outcome.result.told.value Quiet c.stopped-event.ensures.told c.of-outcome.ensures.0
    (λ honest. stop_out M v.size (suc v.node) v.state c.remove-first.result false)

pub returns-then-same : goal.returns-then-same
returns-then-same g c =
    let M = machine g c.args.self.now.ether.setup in
    subst (λ (b : Bool). HasNotedAll M c.args.self.now (stops_in b c.args.inputs.items c.args.answers.now) c.note.new.self) (sym c.if-same.true)
    (first_noted M c.args.self.now c.note.new.self c.args.inputs.items c.remove-first.result c.requires.some c.remove-first.ensures.value
    (noted_as M c.args.self.now c.note.new.self c.stopped-event.result.told.value (StopIn c.remove-first.result false) c.of-outcome.result.told.value Quiet c.stopped-event.ensures.told c.of-outcome.ensures.0 c.note.ensures))

pub note_all-requires-clause-appends : goal.note_all-requires-clause-appends
note_all-requires-clause-appends g c =
    let is : c.args.inputs.items ≡ c.pop.new.self.items ++ c.in-Some.last ∷ [] = search rules in
    front_appends c.pop.new.self.items c.in-Some.last (subst (λ (l : List (InputOf g)). OnlyAppend l) is c.requires.appends)

pub note_all-requires-clause-room : goal.note_all-requires-clause-room
note_all-requires-clause-room g c =
    let is : c.args.inputs.items ≡ c.pop.new.self.items ++ c.in-Some.last ∷ [] = search rules in
    let long : length c.args.inputs.items ≡ length c.pop.new.self.items + 1 = ap (λ (l : List (InputOf g)). length l) is ∙ length-append c.pop.new.self.items (c.in-Some.last ∷ []) in
    let tickets = c.requires.room.1 in
    (room_few c.args.self.now.recording (length c.pop.new.self.items) c.args.self.now.room (length c.args.inputs.items) c.requires.room.0 (omega (arith, long)), omega (arith, long, tickets))

pub note_all-requires-clause-answered : goal.note_all-requires-clause-answered
note_all-requires-clause-answered g c =
    let M = machine g c.args.self.now.ether.setup in
    let v = view_of c.args.self.now.pass in
    let is : c.args.inputs.items ≡ c.pop.new.self.items ++ c.in-Some.last ∷ [] = search rules in
    λ honest. answered_front M v.size (suc v.node) v.state c.pop.new.self.items c.in-Some.last c.args.answers.now
    (subst (λ (l : List (InputOf g)). AreAnswered M v.size (suc v.node) v.state l c.args.answers.now) is (c.requires.answered honest))

pub note-requires-2-clause-heard : goal.note-requires-2-clause-heard
note-requires-2-clause-heard g c =
    let is : c.args.inputs.items ≡ c.pop.new.self.items ++ c.in-Some.last ∷ [] = search rules in
    heard_as (view_of c.note_all.new.self.pass) c.stopped-stop.result.told.value (StopIn c.in-Some.last true) c.stopped-stop.ensures.told
    (heard_stopped (view_of c.note_all.new.self.pass) c.in-Some.last true
    (last_appends c.pop.new.self.items c.in-Some.last (subst (λ (l : List (InputOf g)). OnlyAppend l) is c.requires.appends)))

-- the last copy is of the last input, and the others of the others
split : (g : given.Over) (r : Recording) (inputs front : List (InputOf g)) (x : InputOf g) (copies left : Vec (InputOf g) Global) (o : Option (InputOf g)) → inputs ≡ front ++ x ∷ [] → AreCopies r inputs copies.items
    → copies.items ≡ left.items ++ option_to_list o → (o ≡ None → length copies.items ≡ 0) → IsCopy r x o × AreCopies r front left.items
split g r inputs front x copies left o is h popped none =
    last_copy r front x copies.items left.items o (subst (λ (l : List (InputOf g)). AreCopies r l copies.items) is h) popped none

pub note_all-requires-clause-copied : goal.note_all-requires-clause-copied
note_all-requires-clause-copied g c =
    let is : c.args.inputs.items ≡ c.pop.new.self.items ++ c.in-Some.last ∷ [] = search rules in
    (split g c.args.self.now.recording c.args.inputs.items c.pop.new.self.items c.in-Some.last c.args.copies c.pop-copy.new.self c.pop-copy.result is c.requires.copied c.pop-copy.ensures.items
    (λ e. sym c.args.copies.ok.0 ∙ none_left _ c.pop-copy.result _ _ c.pop-copy.ensures.cases e)).1

pub note-requires-2-clause-kept : goal.note-requires-2-clause-kept
note-requires-2-clause-kept g c =
    let is : c.args.inputs.items ≡ c.pop.new.self.items ++ c.in-Some.last ∷ [] = search rules in
    let copy = (split g c.args.self.now.recording c.args.inputs.items c.pop.new.self.items c.in-Some.last c.args.copies c.pop-copy.new.self c.pop-copy.result is c.requires.copied c.pop-copy.ensures.items
    (λ e. sym c.args.copies.ok.0 ∙ none_left _ c.pop-copy.result _ _ c.pop-copy.ensures.cases e)).0 in
    let same = c.note_all.ensures.recording in (
      subst (λ (r : Recording). IsKept r c.stopped-stop.result) (sym same) (c.stopped-stop.ensures.kept c.args.self.now.recording copy),
      whole_kept _ c.of-came.result Quiet c.of-came.ensures,
    )

pub note-requires-2-clause-room : goal.note-requires-2-clause-room
note-requires-2-clause-room g c =
    let M = machine g c.args.self.now.ether.setup in
    let is : c.args.inputs.items ≡ c.pop.new.self.items ++ c.in-Some.last ∷ [] = search rules in
    let long : length c.args.inputs.items ≡ length (c.pop.new.self.items ++ c.in-Some.last ∷ []) = ap (λ (l : List (InputOf g)). length l) is in
    last_room M c.args.self.now c.note_all.new.self c.pop.new.self.items c.in-Some.last c.args.answers.now (c.requires.many ∙ long) c.note_all.ensures
    (subst (λ (l : List (InputOf g)). room_for c.args.self.now.recording (length l) ≤ c.args.self.now.room) is c.requires.room.0)
    (let tickets = c.requires.room.1 in omega (arith, long, tickets))

pub note-requires-2-clause-out : goal.note-requires-2-clause-out
note-requires-2-clause-out g c =
    let M = machine g c.note_all.new.self.ether.setup in
    let v = view_of c.note_all.new.self.pass in
    out_as M v c.stopped-stop.result.told.value (StopIn c.in-Some.last true) c.of-came.result.told.value Quiet c.stopped-stop.ensures.told c.of-came.ensures.0
    (λ honest. stop_out M v.size (suc v.node) v.state c.in-Some.last true)

pub returns : goal.returns
returns g c =
    let M = machine g c.args.self.now.ether.setup in
    let is : c.args.inputs.items ≡ c.pop.new.self.items ++ c.in-Some.last ∷ [] = search rules in
    let long : length c.args.inputs.items ≡ length (c.pop.new.self.items ++ c.in-Some.last ∷ []) = ap (λ (l : List (InputOf g)). length l) is in
    let all = c.note_all.ensures in
    let one : HasNoted M c.note_all.new.self (StopIn c.in-Some.last true) Quiet c.note-2.new.self =
    subst (λ (e : EtherParts g.row.M-Setup.Denot). HasNoted (machine g e.setup) c.note_all.new.self (StopIn c.in-Some.last true) Quiet c.note-2.new.self) all.ether
    (noted_as (machine g c.note_all.new.self.ether.setup) c.note_all.new.self c.note-2.new.self c.stopped-stop.result.told.value (StopIn c.in-Some.last true) c.of-came.result.told.value Quiet c.stopped-stop.ensures.told c.of-came.ensures.0 c.note-2.ensures) in
    subst (λ (z : Bool × List (InputOf g)). HasNotedAll M c.args.self.now (stops_in z.0 z.1 c.args.answers.now) c.note-2.new.self) (λ d. (sym c.if-same.false d, sym is d))
    (last_noted M c.args.self.now c.note_all.new.self c.pop.new.self.items c.in-Some.last c.args.answers.now (c.requires.many ∙ long) all c.note-2.new.self one)
