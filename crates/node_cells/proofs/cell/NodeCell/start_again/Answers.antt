use Rattle.std.proofs.Common.{◌≡◌, ◌≤◌, ◌+◌, ◌-◌, ◌^◌, ℕ, [], None, length, sym, ap, ◌∙◌, subst}
use Rattle.std.proofs.Math.Nat.{min-le_right}
use Rattle.std.specs.Prelude.{◌↔◌, IsTrue, min}
use Rattle.raft_log.specs.declared.node_state.NodeState.{NodeState}
use Rattle.raft_log.specs.Seen.{seen}
use Rattle.recorder.specs.NodeLines.{fields_of}
use Rattle.raft_node.specs.Hosts.{hosted}
use Rattle.raft_node.specs.Machine.{Machine}
use Rattle.raft_node.specs.Parts.{Keeper, keeper}
use Rattle.ether.specs.Passes.{EtherParts, view_of}
use Rattle.node_cells.specs.declared.phase.Phase.{Phase}
use Rattle.node_cells.specs.declared.phase.Phase.TheVariants.{Up}
use Rattle.node_cells.specs.Books.{IsBook, room_for}
use Rattle.node_cells.specs.Cells.{CellRoom, IsCell, cell_of}
use Rattle.node_cells.specs.Marks.{KnowsMarks}
use Rattle.node_cells.specs.Remembering.{Remembers}
use Rattle.node_cells.specs.Restarts.{HasNotedAll, HasRestarts, IsRestart, fallen, firsts_at_most, firsts_of}
use Rattle.node_cells.specs.Sending.{terms_of}
use Rattle.node_cells.proofs.MarksKept.{restart_keeps}
use Rattle.node_cells.proofs.Stopping.{room_after}
use Rattle.node_cells.proofs.Started.{refused_cell, started_cell, started_is, told_of}
use Rattle.node_cells.proofs.cell.NodeCell.start_again.Given as given
use Rattle.node_cells.proofs.cell.NodeCell.start_again.Goals as goal

abbrev machine : (g : given.Over) → g.row.M-Setup.Denot → Machine
machine g s =
    hosted g.M.Hosted.blank g.M.Hosted.opened g.M.Hosted.shut g.M.Hosted.heard g.M.Hosted.claim g.M.Hosted.source (g.M.Machine.effects s)
    (g.M.Hosted.next_claim s) (g.M.Hosted.playback s) g.M.Hosted.class

abbrev kept : (g : given.Over) → Keeper g.row.S.Denot g.row.M-Command.Denot
kept g = keeper g.S.Stable.saved g.S.Stable.may_stand g.S.Stable.condition

pub invariant_of-self : goal.invariant_of-self
invariant_of-self g c =
    let i = c.self.inside in
    let phase : c.fallen.result ≡ fallen i.phase = c.fallen.ensures ∙ ap fallen c.replace.ensures.value in (
      subst (λ (p : Phase g.row.M-Command.Denot g.row.M-Line.Denot g.row.M-Target.Denot). IsCell (machine g i.book.ether.setup) (kept g) (cell_of i.book c.restart.new.self i.upstream p (i.refused + 1) i.shown)) (sym phase)
          (refused_cell (machine g i.book.ether.setup) (kept g) i.book i.node c.restart.new.self i.upstream i.phase i.refused i.shown c.self.invariant.0 c.restart.ensures.same g.met.S.Stable.sure c.is_whole.ensures.holds
          c.in-Err.ensures.answers.1 c.restart.ensures.may_begin),
      c.self.invariant.1,
    )

abbrev RoomOf : given.Over → Type 0
RoomOf g = CellRoom g.row.M-Setup.Denot g.row.M.Denot g.row.S.Denot g.row.M-Command.Denot g.row.M-Line.Denot g.row.M-Target.Denot g.row.M-Effect.Denot g.row.M-Played.Denot g.row.U.Denot

pub note_restarts-requires : goal.note_restarts-requires
note_restarts-requires g c =
    let i = c.self.inside in
    let m = machine g i.book.ether.setup in
    let first : HasNotedAll m i.book (firsts_of i.phase c.is_in-same.result) c.note_first.new.self =
    subst (λ (p : Phase g.row.M-Command.Denot g.row.M-Line.Denot g.row.M-Target.Denot). HasNotedAll m i.book (firsts_of p c.is_in-same.result) c.note_first.new.self) c.replace-phase.ensures.value c.note_first.ensures in
    room_after m i.book c.note_first.new.self i.phase c.is_in-same.result c.runs_until-more.result i.refused first
    (subst (λ (n : ℕ). n ≤ i.refused) (sym c.runs_until-more.ensures) (min-le_right _ i.refused))
    (subst (λ (z : RoomOf g). room_for z.parts.recording (firsts_at_most z.parts.phase + z.parts.refused) ≤ z.room) (sym c.self.view_is) c.requires.room.0)
    (subst (λ (z : RoomOf g). length (view_of z.parts.pass).turns + (firsts_at_most z.parts.phase + z.parts.refused) ≤ 2 ^ 60) (sym c.self.view_is) c.requires.room.1)

pub invariant_of-self-2 : goal.invariant_of-self-2
invariant_of-self-2 g c =
    let i = c.self.inside in
    let m = machine g i.book.ether.setup in
    let b1 = c.note_first.new.self in
    let b2 = c.note_restarts.new.self in
    let first : HasNotedAll m i.book (firsts_of i.phase c.is_in-same.result) b1 =
    subst (λ (p : Phase g.row.M-Command.Denot g.row.M-Line.Denot g.row.M-Target.Denot). HasNotedAll m i.book (firsts_of p c.is_in-same.result) b1) c.replace-phase.ensures.value c.note_first.ensures in
    let rest : HasRestarts m b1 c.runs_until-more.result b2 =
    subst (λ (e : EtherParts g.row.M-Setup.Denot). HasRestarts (machine g e.setup) b1 c.runs_until-more.result b2) first.ether c.note_restarts.ensures in
    let ok = c.in_default.ensures.answers in
    let before : Remembers c.args.before.now i.node.state = subst (λ (z : CellRoom g.row.M-Setup.Denot g.row.M.Denot g.row.S.Denot g.row.M-Command.Denot g.row.M-Line.Denot g.row.M-Target.Denot g.row.M-Effect.Denot g.row.M-Played.Denot g.row.U.Denot). Remembers c.args.before.now z.parts.node.state) (sym c.self.view_is) c.requires.before in
    let test : IsTrue c.is_in-same.result ↔ (c.args.before.now.term ≡ c.restart.new.self.state.standing.term) × (c.args.before.now.vote ≡ c.restart.new.self.state.standing.vote) × (c.args.before.now.terms.items ≡ terms_of c.restart.new.self.state.log) =
    subst (λ (z : NodeState g.row.M-Command.Denot). IsTrue c.is_in-same.result ↔ (c.args.before.now.term ≡ z.standing.term) × (c.args.before.now.vote ≡ z.standing.vote) × (c.args.before.now.terms.items ≡ terms_of z.log)) c.state.ensures c.is_in-same.ensures in
    let told = told_of c.args.before.now i.node.state c.restart.new.self.state _ ok.1.0 c.is_in-same.result before ok.1.2 test in
    let many : c.runs_until-more.result ≡ min (c.restart.new.self.state.standing.boot - i.node.state.standing.boot - 1) i.refused =
    c.runs_until-more.ensures ∙ (λ d. min ((c.state-2.ensures d).standing.boot - before.boot d - 1) i.refused) in
    let none : c.new-self-inside.result ≡ 0 = c.new-self-inside.ensures in (
      subst (λ (z : EtherParts g.row.M-Setup.Denot × Phase g.row.M-Command.Denot g.row.M-Line.Denot g.row.M-Target.Denot). IsCell (machine g z.0.setup) (kept g) (cell_of b2 c.restart.new.self i.upstream z.1 0 c.of-self-inside.result)) (λ d. (sym (rest.ether ∙ first.ether) d, sym c.replace-phase.ensures.after d))
          (started_cell m (kept g) i.book i.node c.restart.new.self i.upstream i.phase i.refused i.shown c.self.invariant.0 c.restart.ensures.same g.met.S.Stable.sure c.is_whole.ensures.holds
          ok.0 ok.1 c.is_in-same.result told b1 b2 first c.runs_until-more.result many rest (subst (λ (e : EtherParts g.row.M-Setup.Denot). IsBook (machine g e.setup) b2) (rest.ether ∙ first.ether) c.is_whole-2.ensures) c.of-self-inside.result
          (c.of-self-inside.ensures ∙ ap (λ (s : NodeState g.row.M-Command.Denot). fields_of (seen s [])) c.state-3.ensures)),
      subst (λ (a : ℕ). KnowsMarks g.M.Marking.marked (view_of b2.pass) a None) (sym none)
          (restart_keeps m g.M.Marking.marked (cell_of i.book i.node i.upstream i.phase i.refused i.shown) (cell_of b2 c.restart.new.self i.upstream Up 0 c.of-self-inside.result) i.asked i.reached c.self.invariant.1
          (started_is m (kept g) i.book i.node c.restart.new.self i.upstream i.phase i.refused i.shown c.self.invariant.0 c.restart.ensures.same g.met.S.Stable.sure c.is_whole.ensures.holds
          ok.0 ok.1 c.is_in-same.result told b1 b2 first c.runs_until-more.result many rest c.of-self-inside.result)),
    )

pub returns-clause-restart : goal.returns-clause-restart
returns-clause-restart g c =
    let i = c.self.inside in
    let m = machine g i.book.ether.setup in
    let b1 = c.note_first.new.self in
    let b2 = c.note_restarts.new.self in
    let first : HasNotedAll m i.book (firsts_of i.phase c.is_in-same.result) b1 =
    subst (λ (p : Phase g.row.M-Command.Denot g.row.M-Line.Denot g.row.M-Target.Denot). HasNotedAll m i.book (firsts_of p c.is_in-same.result) b1) c.replace-phase.ensures.value c.note_first.ensures in
    let rest : HasRestarts m b1 c.runs_until-more.result b2 =
    subst (λ (e : EtherParts g.row.M-Setup.Denot). HasRestarts (machine g e.setup) b1 c.runs_until-more.result b2) first.ether c.note_restarts.ensures in
    let ok = c.in_default.ensures.answers in
    let before : Remembers c.args.before.now i.node.state = subst (λ (z : CellRoom g.row.M-Setup.Denot g.row.M.Denot g.row.S.Denot g.row.M-Command.Denot g.row.M-Line.Denot g.row.M-Target.Denot g.row.M-Effect.Denot g.row.M-Played.Denot g.row.U.Denot). Remembers c.args.before.now z.parts.node.state) (sym c.self.view_is) c.requires.before in
    let test : IsTrue c.is_in-same.result ↔ (c.args.before.now.term ≡ c.restart.new.self.state.standing.term) × (c.args.before.now.vote ≡ c.restart.new.self.state.standing.vote) × (c.args.before.now.terms.items ≡ terms_of c.restart.new.self.state.log) =
    subst (λ (z : NodeState g.row.M-Command.Denot). IsTrue c.is_in-same.result ↔ (c.args.before.now.term ≡ z.standing.term) × (c.args.before.now.vote ≡ z.standing.vote) × (c.args.before.now.terms.items ≡ terms_of z.log)) c.state.ensures c.is_in-same.ensures in
    let told = told_of c.args.before.now i.node.state c.restart.new.self.state _ ok.1.0 c.is_in-same.result before ok.1.2 test in
    let many : c.runs_until-more.result ≡ min (c.restart.new.self.state.standing.boot - i.node.state.standing.boot - 1) i.refused =
    c.runs_until-more.ensures ∙ (λ d. min ((c.state-2.ensures d).standing.boot - before.boot d - 1) i.refused) in
    subst (λ (z : CellRoom g.row.M-Setup.Denot g.row.M.Denot g.row.S.Denot g.row.M-Command.Denot g.row.M-Line.Denot g.row.M-Target.Denot g.row.M-Effect.Denot g.row.M-Played.Denot g.row.U.Denot × Phase g.row.M-Command.Denot g.row.M-Line.Denot g.row.M-Target.Denot). IsRestart (machine g z.0.parts.ether.setup) z.0.parts (cell_of b2 c.restart.new.self i.upstream z.1 0 c.of-self-inside.result)) (λ d. (c.self.view_is d, sym c.replace-phase.ensures.after d))
    (started_is m (kept g) i.book i.node c.restart.new.self i.upstream i.phase i.refused i.shown c.self.invariant.0 c.restart.ensures.same g.met.S.Stable.sure c.is_whole.ensures.holds
    ok.0 ok.1 c.is_in-same.result told b1 b2 first c.runs_until-more.result many rest c.of-self-inside.result)
