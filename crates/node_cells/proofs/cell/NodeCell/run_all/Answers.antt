use Rattle.std.proofs.Common.{rules, arith, ◌≡◌, ℕ, List, [], length, map, true, suc, inl, refl, sym, ap, ◌∙◌, subst}
use Rattle.raft_log.specs.declared.message.Message.{Message}
use Rattle.raft_log.specs.declared.node_state.NodeState.{NodeState}
use Rattle.raft_log.specs.Node.{is_leader}
use Rattle.raft_log.specs.Positions.{role_of}
use Rattle.raft_log.specs.Seen.{seen}
use Rattle.recorder.specs.NodeLines.{fields_of}
use Rattle.raft_node.specs.declared.input.Input.{Input}
use Rattle.raft_node.specs.declared.node_fault.Unsaved.{Unsaved}
use Rattle.raft_node.specs.Hosts.{hosted}
use Rattle.raft_node.specs.Machine.{Machine}
use Rattle.raft_node.specs.Parts.{IsBlamed, Keeper, Parts, keeper}
use Rattle.raft_node.specs.SteppingTogether.{AreDone, HaveFailed}
use Rattle.world_views.specs.Inputs.{NodeInput}
use Rattle.ether.specs.Passes.{EtherParts, view_of}
use Rattle.node_cells.specs.declared.phase.Phase.TheVariants.{Up}
use Rattle.node_cells.specs.Books.{IsBook}
use Rattle.node_cells.specs.Copies.{AreCopies}
use Rattle.node_cells.specs.Cells.{AreAnswered, CellRoom, HasCopies, IsCell, cell_of}
use Rattle.node_cells.specs.Inputs.{Answer, input_of}
use Rattle.node_cells.specs.Causes.{own_cause}
use Rattle.node_cells.specs.Marks.{KnowsMarks, asked_by_all, asked_in}
use Rattle.node_cells.specs.Restarts.{HasNotedAll}
use Rattle.node_cells.specs.Together.{AreTurned, FallsInTurns, all_done}
use Rattle.node_cells.proofs.MarksKept.{turns_keep}
use Rattle.node_cells.proofs.Together.{all_answered, done_together, downed_here, fallen_cell_by, falls_in_turns, many_are, turned_together}
use Rattle.node_cells.proofs.cell.NodeCell.run_all.Given as given
use Rattle.node_cells.proofs.cell.NodeCell.run_all.Goals as goal

abbrev machine : (g : given.Over) → g.row.M-Setup.Denot → Machine
machine g s =
    hosted g.M.Hosted.blank g.M.Hosted.opened g.M.Hosted.shut g.M.Hosted.heard g.M.Hosted.claim g.M.Hosted.source (g.M.Machine.effects s)
    (g.M.Hosted.next_claim s) (g.M.Hosted.playback s) g.M.Hosted.class

abbrev kept : (g : given.Over) → Keeper g.row.S.Denot g.row.M-Command.Denot
kept g = keeper g.S.Stable.saved g.S.Stable.may_stand g.S.Stable.condition

abbrev RoomOf : given.Over → Type 0
RoomOf g = CellRoom g.row.M-Setup.Denot g.row.M.Denot g.row.S.Denot g.row.M-Command.Denot g.row.M-Line.Denot g.row.M-Target.Denot g.row.M-Effect.Denot g.row.M-Played.Denot g.row.U.Denot

abbrev TakenOf : given.Over → Type 0
TakenOf g = Input (Message g.row.M-Command.Denot) g.row.M-Command.Denot g.row.M-Line.Denot

abbrev InputOf : given.Over → Type 0
InputOf g = NodeInput g.row.M-Command.Denot g.row.M-Line.Denot

abbrev NodeOf : given.Over → Type 0
NodeOf g = Parts g.row.M-Setup.Denot g.row.M.Denot g.row.S.Denot g.row.M-Command.Denot

-- the node did the inputs whose copies the record has
are_done : (g : given.Over) (s t : g.row.M-Setup.Denot) (taken : List (TakenOf g)) (copies : List (InputOf g)) (q q' : NodeOf g) (answers : List Answer) → s ≡ t → taken ≡ map input_of copies
    → AreDone (machine g s) (kept g) taken q answers q' → AreDone (machine g t) (kept g) (map input_of copies) q answers q'
are_done g s t taken copies q q' answers e same h =
    subst (λ (z : g.row.M-Setup.Denot × List (TakenOf g)). AreDone (machine g z.0) (kept g) z.1 q answers q') (λ d. (e d, same d)) h

-- or it failed by them
have_failed : (g : given.Over) (s t : g.row.M-Setup.Denot) (taken : List (TakenOf g)) (copies : List (InputOf g)) (q q' : NodeOf g) (unsaved : Unsaved) → s ≡ t → taken ≡ map input_of copies
    → HaveFailed (machine g s) (kept g) taken q unsaved q' → HaveFailed (machine g t) (kept g) (map input_of copies) q unsaved q'
have_failed g s t taken copies q q' unsaved e same h =
    subst (λ (z : g.row.M-Setup.Denot × List (TakenOf g)). HaveFailed (machine g z.0) (kept g) z.1 q unsaved q') (λ d. (e d, same d)) h

pub note_all-requires-clause-enough : goal.note_all-requires-clause-enough
note_all-requires-clause-enough g c =
    let i = c.self.inside in
    let up : i.phase ≡ Up = search rules in
    let leads : is_leader (role_of i.node.state.standing.position) ≡ true = search rules in
    let done = are_done g _ i.book.ether.setup c.args.taken.items c.args.told.items i.node c.step_all.new.self c.in-Ok.answers.items c.self.invariant.0.setup c.requires.taken c.in-Ok.ensures.done in
    let many = many_are (machine g i.book.ether.setup) (kept g) i.book i.node i.upstream i.phase i.refused i.shown c.self.invariant.0 up c.args.told.items c.requires.appends leads c.step_all.new.self c.in-Ok.ensures.same c.in-Ok.answers.items done in
    let value = ap (λ (l : List Answer). length l) c.deref.ensures.value in
    omega (arith, many, value)

pub note_all-requires-clause-answered : goal.note_all-requires-clause-answered
note_all-requires-clause-answered g c =
    let i = c.self.inside in
    let m = machine g i.book.ether.setup in
    let v = view_of i.book.pass in
    let up : i.phase ≡ Up = search rules in
    let leads : is_leader (role_of i.node.state.standing.position) ≡ true = search rules in
    let done = are_done g _ i.book.ether.setup c.args.taken.items c.args.told.items i.node c.step_all.new.self c.in-Ok.answers.items c.self.invariant.0.setup c.requires.taken c.in-Ok.ensures.done in
    λ honest. subst (λ (l : List Answer). AreAnswered m v.size (suc v.node) v.state c.args.told.items l) (sym c.deref.ensures.value)
    (all_answered m (kept g) i.book i.node i.upstream i.phase i.refused i.shown c.self.invariant.0 up c.args.told.items c.requires.appends leads c.step_all.new.self c.in-Ok.ensures.same c.in-Ok.answers.items done honest)

pub invariant_of-self : goal.invariant_of-self
invariant_of-self g c =
    let i = c.self.inside in
    let m = machine g i.book.ether.setup in
    let up : i.phase ≡ Up = search rules in
    let leads : is_leader (role_of i.node.state.standing.position) ≡ true = search rules in
    let done = are_done g _ i.book.ether.setup c.args.taken.items c.args.told.items i.node c.step_all.new.self c.in-Ok.answers.items c.self.invariant.0.setup c.requires.taken c.in-Ok.ensures.done in
    let b1 = c.note_all.new.self in
    let noted : HasNotedAll m i.book (all_done c.args.told.items c.in-Ok.answers.items) b1 =
    subst (λ (l : List Answer). HasNotedAll m i.book (all_done c.args.told.items l) b1) c.deref.ensures.value c.note_all.ensures in
    let d = cell_of b1 c.step_all.new.self i.upstream i.phase i.refused c.of-self-inside.result in
    let asked : c.args.asked ≡ asked_by_all g.M.Marking.marked i.asked c.args.told.items =
    c.requires.asked ∙ (λ t. asked_by_all g.M.Marking.marked (asked_in g.M.Marking.marked (view_of (sym c.self.view_is t).parts.pass)) c.args.told.items)
    ∙ ap (λ (n : ℕ). asked_by_all g.M.Marking.marked n c.args.told.items) (sym c.self.invariant.1.asked_is) in (
      subst (λ (e : EtherParts g.row.M-Setup.Denot). IsCell (machine g e.setup) (kept g) d) (sym noted.ether)
          (done_together m (kept g) i.book i.node i.upstream i.phase i.refused i.shown c.self.invariant.0 up c.args.told.items c.requires.appends leads c.step_all.new.self c.in-Ok.ensures.same c.in-Ok.answers.items done
          b1 noted c.of-self-inside.result (subst (λ (e : EtherParts g.row.M-Setup.Denot). IsBook (machine g e.setup) b1) noted.ether c.is_whole-in-Ok.ensures)
          (c.of-self-inside.ensures ∙ ap (λ (s : NodeState g.row.M-Command.Denot). fields_of (seen s [])) c.state.ensures)),
      subst (λ (a : ℕ). KnowsMarks g.M.Marking.marked (view_of b1.pass) a i.reached) (sym asked)
          (turns_keep m g.M.Marking.marked (cell_of i.book i.node i.upstream i.phase i.refused i.shown) d i.asked i.reached c.self.invariant.1 c.args.told.items c.in-Ok.answers.items
          (turned_together m (kept g) i.book i.node i.upstream i.phase i.refused i.shown c.self.invariant.0 up c.args.told.items c.requires.appends leads c.step_all.new.self c.in-Ok.ensures.same c.in-Ok.answers.items done
          b1 noted c.of-self-inside.result)),
    )

pub returns-in-Ok-clause-done : goal.returns-in-Ok-clause-done
returns-in-Ok-clause-done g c =
    let i = c.self.inside in
    let m = machine g i.book.ether.setup in
    let up : i.phase ≡ Up = search rules in
    let leads : is_leader (role_of i.node.state.standing.position) ≡ true = search rules in
    let done = are_done g _ i.book.ether.setup c.args.taken.items c.args.told.items i.node c.step_all.new.self c.in-Ok.answers.items c.self.invariant.0.setup c.requires.taken c.in-Ok.ensures.done in
    let b1 = c.note_all.new.self in
    let noted : HasNotedAll m i.book (all_done c.args.told.items c.in-Ok.answers.items) b1 =
    subst (λ (l : List Answer). HasNotedAll m i.book (all_done c.args.told.items l) b1) c.deref.ensures.value c.note_all.ensures in
    subst (λ (z : RoomOf g). AreTurned (machine g z.parts.ether.setup) z.parts c.args.told.items c.in-Ok.answers.items (cell_of b1 c.step_all.new.self i.upstream i.phase i.refused c.of-self-inside.result)) c.self.view_is
    (turned_together m (kept g) i.book i.node i.upstream i.phase i.refused i.shown c.self.invariant.0 up c.args.told.items c.requires.appends leads c.step_all.new.self c.in-Ok.ensures.same c.in-Ok.answers.items done
    b1 noted c.of-self-inside.result)

pub invariant_of-self-in-Err : goal.invariant_of-self-in-Err
invariant_of-self-in-Err g c =
    let i = c.self.inside in
    let copied : HasCopies i.book.recording c.down_in.result =
    c.down_in.ensures.copied i.book.recording (subst (λ (z : RoomOf g). AreCopies z.parts.recording c.args.told.items c.args.copies.items) (sym c.self.view_is) c.requires.copied) in
    let up : i.phase ≡ Up = search rules in
    let leads : is_leader (role_of i.node.state.standing.position) ≡ true = search rules in
    let failed = have_failed g _ i.book.ether.setup c.args.taken.items c.args.told.items i.node c.step_all.new.self c.in-Err.field-0 c.self.invariant.0.setup c.requires.taken c.in-Err.ensures.failed in
    let cell = fallen_cell_by (machine g i.book.ether.setup) (kept g) i.book i.node i.upstream i.phase i.refused i.shown c.self.invariant.0 up c.args.told.items c.requires.appends leads c.step_all.new.self c.in-Err.ensures.same
    c.args.told c.args.copies refl c.requires.some c.in-Err.field-0 failed g.met.S.Stable.sure c.is_whole.ensures.holds c.down_in.result c.down_in.ensures.all c.down_in.ensures.first copied in
    (cell, c.self.invariant.1)

pub returns-in-Err-clause-failed : goal.returns-in-Err-clause-failed
returns-in-Err-clause-failed g c =
    let i = c.self.inside in
    let copied : HasCopies i.book.recording c.down_in.result =
    c.down_in.ensures.copied i.book.recording (subst (λ (z : RoomOf g). AreCopies z.parts.recording c.args.told.items c.args.copies.items) (sym c.self.view_is) c.requires.copied) in
    let up : i.phase ≡ Up = search rules in
    let leads : is_leader (role_of i.node.state.standing.position) ≡ true = search rules in
    let failed = have_failed g _ i.book.ether.setup c.args.taken.items c.args.told.items i.node c.step_all.new.self c.in-Err.field-0 c.self.invariant.0.setup c.requires.taken c.in-Err.ensures.failed in
    let falls = falls_in_turns (machine g i.book.ether.setup) (kept g) i.book i.node i.upstream i.phase i.refused i.shown c.self.invariant.0 up c.args.told.items c.requires.appends leads c.step_all.new.self c.in-Err.ensures.same
    c.args.told c.args.copies refl c.requires.some c.in-Err.field-0 failed g.met.S.Stable.sure c.is_whole.ensures.holds c.down_in.result c.down_in.ensures.all c.down_in.ensures.first copied in
    inl (subst (λ (z : RoomOf g). FallsInTurns (machine g z.parts.ether.setup) z.parts c.args.told.items (cell_of i.book c.step_all.new.self i.upstream c.down_in.result i.refused i.shown)) c.self.view_is falls)

pub returns-in-Err-clause-cause : goal.returns-in-Err-clause-cause
returns-in-Err-clause-cause g c =
    let i = c.self.inside in
    let up : i.phase ≡ Up = search rules in
    let failed = have_failed g _ i.book.ether.setup c.args.taken.items c.args.told.items i.node c.step_all.new.self c.in-Err.field-0 c.self.invariant.0.setup c.requires.taken c.in-Err.ensures.failed in
    let falls = downed_here (machine g i.book.ether.setup) (kept g) c.args.told.items i.node c.step_all.new.self c.in-Err.field-0 failed (c.self.invariant.0.up up) in (
      sym (ap own_cause falls.is_down),
      λ was is. subst (λ (z : RoomOf g). IsBlamed c.in-Err.field-0.cause (g.S.Stable.condition z.parts.node.store) (g.S.Stable.condition c.step_all.new.self.store)) c.self.view_is falls.blamed,
    )
