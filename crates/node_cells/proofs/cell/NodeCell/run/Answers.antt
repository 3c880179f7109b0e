use Rattle.std.proofs.Common.{rules, ℕ, Global, suc, Option, Some, Vec, arith, inl, true, ◌≡◌, List, [], length, Result, Ok, Err, refl, sym, ap, ◌∙◌, subst, map}
use Rattle.raft_log.specs.declared.message.Message.{Message}
use Rattle.raft_log.specs.Seen.{seen}
use Rattle.raft_log.specs.declared.node_state.NodeState.{NodeState}
use Rattle.recorder.specs.NodeLines.{fields_of}
use Rattle.raft_node.specs.declared.input.Input.{Input}
use Rattle.raft_node.specs.declared.input.Output.{Output}
use Rattle.raft_node.specs.declared.node_fault.NodeFault.{NodeFault}
use Rattle.raft_node.specs.Hosts.{hosted}
use Rattle.raft_node.specs.Machine.{Machine}
use Rattle.raft_node.specs.Parts.{Keeper, Parts, keeper}
use Rattle.raft_node.specs.Stepping.{IsActed, IsSameNode, IsStepped}
use Rattle.raft_node.specs.Steps.{Act}
use Rattle.world_run.specs.World.{hands}
use Rattle.world_run.specs.declared.outcome.Outcome.TheVariants.{Refused}
use Rattle.world_views.specs.declared.node_event.NodeEvent.TheVariants.{Does}
use Rattle.world_views.specs.Inputs.{NodeInput}
use Rattle.world_run.specs.Told.{out_of}
use Rattle.world_views.specs.Own.{ViewOf, act_of, own_out}
use Rattle.world_views.specs.Views.{View, carries}
use Rattle.ether.specs.Passes.{EtherParts, view_of}
use Rattle.node_cells.specs.declared.cell_fault.CellFault.TheVariants.{Node as OfNode}
use Rattle.node_cells.specs.declared.phase.Phase.TheVariants.{Up, DownInTurn}
use Rattle.node_cells.specs.declared.record.TurnOutput.{TurnOutput}
use Rattle.ether.specs.Passes.{IsHeard}
use Rattle.node_steps.specs.declared.refusal.Refusal.{Refusal}
use Rattle.world_run.specs.declared.outcome.Outcome.{Outcome}
use Rattle.world_views.specs.declared.node_event.NodeEvent.{NodeEvent}
use Rattle.node_cells.specs.declared.for_record.ForRecord.{ForRecord}
use Rattle.node_cells.specs.declared.record.Recording.{Recording}
use Rattle.node_cells.specs.Copies.{IsCopy, IsKept}
use Rattle.node_cells.specs.Books.{BookParts, HasNoted, HasPosted, IsBook}
use Rattle.node_cells.specs.Cells.{CellRoom, HasHeard, IsCell, IsIn, cell_of}
use Rattle.node_cells.specs.Marks.{KnowsMarks}
use Rattle.node_cells.specs.Posts.{posts_from}
use Rattle.node_cells.specs.Sending.{to_of}
use Rattle.node_cells.specs.Inputs.{input_of}
use Rattle.node_cells.specs.Turns.{FallsInTurn, IsEvent, IsGiven, IsNoTurn, IsTurn}
use Rattle.node_cells.specs.Upstreams.{HandsOut}
use Rattle.node_cells.proofs.Acting.{down_case, refused_case, same_act}
use Rattle.node_cells.proofs.Turning.{comes_out, done_cell, fallen_cell, falls_in, few_posts, few_sent, goes_within, may_post, still_cell, still_event, turn_is, turned_cell}
use Rattle.node_cells.proofs.MarksKept.{refusal_keeps, turn_keeps}
use Rattle.node_cells.proofs.Showing.{declined, id_is, is_up}
use Rattle.node_cells.proofs.cell.NodeCell.run.Given as given
use Rattle.node_cells.proofs.cell.NodeCell.run.Goals as goal

abbrev machine : (g : given.Over) → g.row.M-Setup.Denot → Machine
machine g s =
    hosted g.M.Hosted.blank g.M.Hosted.opened g.M.Hosted.shut g.M.Hosted.heard g.M.Hosted.claim g.M.Hosted.source (g.M.Machine.effects s)
    (g.M.Hosted.next_claim s) (g.M.Hosted.playback s) g.M.Hosted.class

abbrev kept : (g : given.Over) → Keeper g.row.S.Denot g.row.M-Command.Denot
kept g = keeper g.S.Stable.saved g.S.Stable.may_stand g.S.Stable.condition

abbrev Inner : (g : given.Over) → Type 0
Inner g = Parts g.row.M-Setup.Denot g.row.M.Denot g.row.S.Denot g.row.M-Command.Denot

-- the step, as one of the copied input at the ether's setup
acted : (g : given.Over) (s t : g.row.M-Setup.Denot) (x copy : NodeInput g.row.M-Command.Denot g.row.M-Line.Denot) (y : Input (Message g.row.M-Command.Denot) g.row.M-Command.Denot g.row.M-Line.Denot) (q q' : Inner g)
    (r : Result (Output g.row.M-Command.Denot g.row.M-Effect.Denot) NodeFault) → s ≡ t → y ≡ input_of x → copy ≡ x → IsStepped (machine g s) (kept g) y q r q'
    → IsActed (machine g t) (kept g) (act_of (machine g t) copy) q r q' × IsSameNode (kept g) q q'
acted g s t x copy y q q' r e is same h =
    subst (λ (z : g.row.M-Setup.Denot). IsActed (machine g z) (kept g) (act_of (machine g z) copy) q r q' × IsSameNode (kept g) q q') e
    (subst (λ (a : Act (machine g s)). IsActed (machine g s) (kept g) a q r q' × IsSameNode (kept g) q q') (same_act (machine g s) x copy y is same) h)

heard : (g : given.Over) (v w : View g.row.M-Command.Denot g.row.M-Line.Denot g.row.M-Target.Denot) (x copy : NodeInput g.row.M-Command.Denot g.row.M-Line.Denot) → w ≡ v → copy ≡ x
    → HasHeard v (carries x) → HasHeard w (carries copy)
heard g v w x copy e same h =
    subst (λ (z : View g.row.M-Command.Denot g.row.M-Line.Denot g.row.M-Target.Denot × NodeInput g.row.M-Command.Denot g.row.M-Line.Denot). HasHeard z.0 (carries z.1)) (λ d. (sym e d, sym same d)) h

abbrev RoomOf : given.Over → Type 0
RoomOf g = CellRoom g.row.M-Setup.Denot g.row.M.Denot g.row.S.Denot g.row.M-Command.Denot g.row.M-Line.Denot g.row.M-Target.Denot g.row.M-Effect.Denot g.row.M-Played.Denot g.row.U.Denot

abbrev InputOf : given.Over → Type 0
InputOf g = NodeInput g.row.M-Command.Denot g.row.M-Line.Denot

abbrev BookOf : given.Over → Type 0
BookOf g = BookParts g.row.M-Setup.Denot g.row.M-Command.Denot g.row.M-Line.Denot g.row.M-Target.Denot g.row.M-Effect.Denot g.row.M-Played.Denot

abbrev EventOf' : given.Over → Type 0
EventOf' g = NodeEvent g.row.M-Command.Denot g.row.M-Line.Denot g.row.M-Target.Denot

abbrev OutcomeOf' : given.Over → Type 0
OutcomeOf' g = Outcome g.row.M-Effect.Denot g.row.M-Played.Denot

-- what was noted is that the input was done
noted_does : (g : given.Over) (s : g.row.M-Setup.Denot) (b d : BookOf g) (e : EventOf' g) (x : InputOf g) (o : OutcomeOf' g) → e ≡ Does x → HasNoted (machine g s) b e o d → HasNoted (machine g s) b (Does x) o d
noted_does g s b d e x o is h = subst (λ (z : EventOf' g). HasNoted (machine g s) b z o d) is h

noted_refused : (g : given.Over) (s : g.row.M-Setup.Denot) (b d : BookOf g) (e : EventOf' g) (x : InputOf g) (o : OutcomeOf' g) (refusal : Refusal) → e ≡ Does x → o ≡ Refused refusal → HasNoted (machine g s) b e o d
    → HasNoted (machine g s) b (Does x) (Refused refusal) d
noted_refused g s b d e x o refusal is out h = subst (λ (z : EventOf' g × OutcomeOf' g). HasNoted (machine g s) b z.0 z.1 d) (λ t. (is t, out t)) h

-- the copy is of the input, by how the cell's book records
copy_here : (g : given.Over) (b z : RoomOf g) (recording : Recording) (x : InputOf g) (copy : Option (InputOf g)) → recording ≡ z.parts.recording → b ≡ z → IsCopy recording x copy → IsCopy b.parts.recording x copy
copy_here g b z recording x copy e same is = λ on. is (e ∙ ap (λ (y : RoomOf g). y.parts.recording) (sym same) ∙ on)

heard_does : (g : given.Over) (v : View g.row.M-Command.Denot g.row.M-Line.Denot g.row.M-Target.Denot) (e : EventOf' g) (x : InputOf g) → e ≡ Does x → HasHeard v (carries x) → IsHeard v e
heard_does g v e x is h = subst (λ (z : EventOf' g). IsHeard v z) (sym is) h

outcome_here : (g : given.Over) (b z : RoomOf g) (recording : Recording) (o : ForRecord (OutcomeOf' g)) → recording ≡ z.parts.recording → b ≡ z → IsKept recording o → IsKept b.parts.recording o
outcome_here g b z recording o e same is = λ on. is (e ∙ ap (λ (y : RoomOf g). y.parts.recording) (sym same) ∙ on)

pub invariant_of-self : goal.invariant_of-self
invariant_of-self g c =
    let i = c.self.inside in
    let up : i.phase ≡ Up = ap (λ (z : RoomOf g). z.parts.phase) c.self.view_is ∙ c.requires.up in
    let a = acted g _ _ c.args.input c.args.told c.input_of.result i.node c.step.new.self (Ok c.in-Ok.output) c.self.invariant.0.setup c.input_of.ensures c.requires.told c.in-Ok.ensures in
    let cell = done_cell (machine g i.book.ether.setup) (kept g) g.U.Upstream.tally i.book i.node i.upstream i.phase i.refused i.shown c.self.invariant.0 up c.args.told c.in-Ok.output c.step.new.self a.0 a.1 g.met.S.Stable.sure
    (heard g _ (view_of i.book.pass) c.args.input c.args.told (λ d. view_of (c.self.view_is d).parts.pass) c.requires.told c.requires.heard)
    c.args.copy (copy_here g _ c.args.self.now c.args.recording c.args.told c.args.copy c.requires.recording c.self.view_is c.requires.copy) in
    (cell, c.self.invariant.1)

pub note-requires-clause-heard : goal.note-requires-clause-heard
note-requires-clause-heard g c =
    let v = view_of c.self.inside.book.pass in
    heard_does g v c.done.result.told.value c.args.told c.done.ensures.told (heard g _ v c.args.input c.args.told (λ d. view_of (c.self.view_is d).parts.pass) c.requires.told c.requires.heard)

pub note-requires-in-Refused-clause-heard : goal.note-requires-in-Refused-clause-heard
note-requires-in-Refused-clause-heard g c =
    let v = view_of c.self.inside.book.pass in
    heard_does g v c.done-in-Refused.result.told.value c.args.told c.done-in-Refused.ensures.told
    (heard g _ v c.args.input c.args.told (λ d. view_of (c.self.view_is d).parts.pass) c.requires.told c.requires.heard)

pub note-requires-clause-kept : goal.note-requires-clause-kept
note-requires-clause-kept g c =
    let here : IsCopy c.self.inside.book.recording c.args.told c.args.copy = copy_here g _ c.args.self.now c.args.recording c.args.told c.args.copy c.requires.recording c.self.view_is c.requires.copy in
    (c.done.ensures.kept _ here, outcome_here g _ c.args.self.now c.args.recording c.in-Ok-outputs.outcome c.requires.recording c.self.view_is c.in-Ok-outputs.ensures.kept)

pub note-requires-in-Refused-clause-kept : goal.note-requires-in-Refused-clause-kept
note-requires-in-Refused-clause-kept g c =
    let here : IsCopy c.self.inside.book.recording c.args.told c.args.copy = copy_here g _ c.args.self.now c.args.recording c.args.told c.args.copy c.requires.recording c.self.view_is c.requires.copy in
    (c.done-in-Refused.ensures.kept _ here, λ on. c.of-outcome.ensures.1 ∙ ap (λ (o : OutcomeOf' g). Some o) (sym c.of-outcome.ensures.0))

pub note-requires-clause-out : goal.note-requires-clause-out
note-requires-clause-out g c =
    let i = c.self.inside in
    let up : i.phase ≡ Up = ap (λ (z : RoomOf g). z.parts.phase) c.self.view_is ∙ c.requires.up in
    let a = acted g _ _ c.args.input c.args.told c.input_of.result i.node c.step.new.self (Ok c.in-Ok.output) c.self.invariant.0.setup c.input_of.ensures c.requires.told c.in-Ok.ensures in
    let given : IsGiven c.in-Ok.output.place c.in-Ok.output.effects.items c.in-Ok-outputs.outcome.told.value =
    c.in-Ok-outputs.ensures.given in
    let v = view_of i.book.pass in
    λ honest. comes_out (machine g i.book.ether.setup) (kept g) g.U.Upstream.tally i.book i.node i.upstream i.phase i.refused i.shown c.self.invariant.0 up c.args.told c.in-Ok.output c.step.new.self a.0 a.1 c.in-Ok-outputs.outcome.told.value given honest
    ∙ ap (λ (e : EventOf' g). own_out (machine g i.book.ether.setup) v.size (suc v.node) v.state e) (sym c.done.ensures.told)

pub post_all-requires-clause-within : goal.post_all-requires-clause-within
post_all-requires-clause-within g c =
    let i = c.self.inside in
    let up : i.phase ≡ Up = ap (λ (z : RoomOf g). z.parts.phase) c.self.view_is ∙ c.requires.up in
    let a = acted g _ _ c.args.input c.args.told c.input_of.result i.node c.step.new.self (Ok c.in-Ok.output) c.self.invariant.0.setup c.input_of.ensures c.requires.told c.in-Ok.ensures in
    goes_within (machine g i.book.ether.setup) (kept g) g.U.Upstream.tally i.book i.node i.upstream i.phase i.refused i.shown c.self.invariant.0 up c.args.told c.in-Ok.output c.step.new.self a.0 a.1
    c.in-Ok-outputs.outcome.told.value c.note.new.self (noted_does g i.book.ether.setup i.book c.note.new.self c.done.result.told.value c.args.told c.in-Ok-outputs.outcome.told.value c.done.ensures.told c.note.ensures)

pub post_all-requires-clause-stand : goal.post_all-requires-clause-stand
post_all-requires-clause-stand g c =
    let i = c.self.inside in
    let up : i.phase ≡ Up = ap (λ (z : RoomOf g). z.parts.phase) c.self.view_is ∙ c.requires.up in
    let a = acted g _ _ c.args.input c.args.told c.input_of.result i.node c.step.new.self (Ok c.in-Ok.output) c.self.invariant.0.setup c.input_of.ensures c.requires.told c.in-Ok.ensures in
    may_post (machine g i.book.ether.setup) (kept g) g.U.Upstream.tally i.book i.node i.upstream i.phase i.refused i.shown c.self.invariant.0 up c.args.told c.in-Ok.output c.step.new.self a.0 a.1
    c.in-Ok-outputs.outcome.told.value c.note.new.self (noted_does g i.book.ether.setup i.book c.note.new.self c.done.result.told.value c.args.told c.in-Ok-outputs.outcome.told.value c.done.ensures.told c.note.ensures)

pub post_all-requires-clause-few : goal.post_all-requires-clause-few
post_all-requires-clause-few g c =
    let i = c.self.inside in
    let up : i.phase ≡ Up = ap (λ (z : RoomOf g). z.parts.phase) c.self.view_is ∙ c.requires.up in
    let a = acted g _ _ c.args.input c.args.told c.input_of.result i.node c.step.new.self (Ok c.in-Ok.output) c.self.invariant.0.setup c.input_of.ensures c.requires.told c.in-Ok.ensures in
    few_posts (machine g i.book.ether.setup) (kept g) g.U.Upstream.tally i.book i.node i.upstream i.phase i.refused i.shown c.self.invariant.0 up c.args.told c.in-Ok.output c.step.new.self a.0 a.1
    c.in-Ok-outputs.outcome.told.value c.note.new.self (noted_does g i.book.ether.setup i.book c.note.new.self c.done.result.told.value c.args.told c.in-Ok-outputs.outcome.told.value c.done.ensures.told c.note.ensures)

pub post_all-requires-clause-room : goal.post_all-requires-clause-room
post_all-requires-clause-room g c =
    let i = c.self.inside in
    let up : i.phase ≡ Up = ap (λ (z : RoomOf g). z.parts.phase) c.self.view_is ∙ c.requires.up in
    let a = acted g _ _ c.args.input c.args.told c.input_of.result i.node c.step.new.self (Ok c.in-Ok.output) c.self.invariant.0.setup c.input_of.ensures c.requires.told c.in-Ok.ensures in
    let few = few_sent (machine g i.book.ether.setup) (kept g) g.U.Upstream.tally i.book i.node i.upstream i.phase i.refused i.shown c.self.invariant.0 up c.args.told c.in-Ok.output c.step.new.self a.0 a.1
    c.in-Ok-outputs.outcome.told.value c.note.new.self (noted_does g i.book.ether.setup i.book c.note.new.self c.done.result.told.value c.args.told c.in-Ok-outputs.outcome.told.value c.done.ensures.told c.note.ensures) in
    let room = c.requires.replaced.1 in
    omega (arith, few, room)

pub invariant_of-self-in-Ok : goal.invariant_of-self-in-Ok
invariant_of-self-in-Ok g c =
    let i = c.self.inside in
    let up : i.phase ≡ Up = ap (λ (z : RoomOf g). z.parts.phase) c.self.view_is ∙ c.requires.up in
    let a = acted g _ _ c.args.input c.args.told c.input_of.result i.node c.step.new.self (Ok c.in-Ok.output) c.self.invariant.0.setup c.input_of.ensures c.requires.told c.in-Ok.ensures in
    let noted = noted_does g i.book.ether.setup i.book c.note.new.self c.done.result.told.value c.args.told c.in-Ok-outputs.outcome.told.value c.done.ensures.told c.note.ensures in
    let b2 = c.post_all.new.self in
    let moved : HasPosted (machine g i.book.ether.setup) c.note.new.self (length c.in-Ok.output.messages.items) b2 =
    subst (λ (e : EtherParts g.row.M-Setup.Denot). HasPosted (machine g e.setup) c.note.new.self (length c.in-Ok.output.messages.items) b2) noted.ether c.post_all.ensures.posted in
    let whole : IsBook (machine g i.book.ether.setup) b2 = subst (λ (e : EtherParts g.row.M-Setup.Denot). IsBook (machine g e.setup) b2) (moved.ether ∙ noted.ether) c.is_whole.ensures in
    let m = machine g i.book.ether.setup in
    let d = cell_of b2 c.step.new.self c.hand_all.new.upstream i.phase i.refused c.of-self-inside.result in
    let cell : IsCell m (kept g) d =
    turned_cell m (kept g) g.U.Upstream.tally i.book i.node i.upstream i.phase i.refused i.shown c.self.invariant.0 up c.args.told c.in-Ok.output c.step.new.self a.0 a.1
    c.in-Ok-outputs.outcome.told.value c.note.new.self noted b2 moved c.hand_all.new.upstream c.of-self-inside.result whole
    (c.of-self-inside.ensures ∙ ap (λ (s : NodeState g.row.M-Command.Denot). fields_of (seen s [])) c.state-in-Ok.ensures) in (
      subst (λ (e : EtherParts g.row.M-Setup.Denot). IsCell (machine g e.setup) (kept g) d) (sym (moved.ether ∙ noted.ether)) cell,
      subst (λ (r : Option ℕ). KnowsMarks g.M.Marking.marked (view_of b2.pass) c.larger-self-inside.result r) (sym c.reached_after-self-inside.ensures)
          (turn_keeps m g.M.Marking.marked (view_of i.book.pass) (view_of b2.pass) i.asked i.reached c.self.invariant.1 noted.ticket c.note.new.self.sent (length c.in-Ok.output.messages.items) c.args.told
          (moved.view ∙ ap (λ (v : ViewOf m). posts_from v c.note.new.self.sent (length c.in-Ok.output.messages.items)) noted.view)
          c.state.result.now c.state-state.result.now c.id-node.result c.larger-self-inside.result
          (λ honest. subst (λ (s : NodeState g.row.M-Command.Denot). IsIn s (view_of i.book.pass).state) (sym c.state.ensures)
          (is_up m (kept g) (cell_of i.book i.node i.upstream i.phase i.refused i.shown) c.self.invariant.0 up honest))
          (λ honest. subst (λ (s : NodeState g.row.M-Command.Denot). IsIn s (view_of b2.pass).state) (sym c.state-state.ensures) (is_up m (kept g) d cell up honest))
          (c.id-node.ensures ∙ sym (id_is m (kept g) d cell)) (search rules)),
    )

pub returns-in-Ok-outputs-clause-turn : goal.returns-in-Ok-outputs-clause-turn
returns-in-Ok-outputs-clause-turn g c =
    let i = c.self.inside in
    let up : i.phase ≡ Up = ap (λ (z : RoomOf g). z.parts.phase) c.self.view_is ∙ c.requires.up in
    let a = acted g _ _ c.args.input c.args.told c.input_of.result i.node c.step.new.self (Ok c.in-Ok.output) c.self.invariant.0.setup c.input_of.ensures c.requires.told c.in-Ok.ensures in
    let noted = noted_does g i.book.ether.setup i.book c.note.new.self c.done.result.told.value c.args.told c.in-Ok-outputs.outcome.told.value c.done.ensures.told c.note.ensures in
    let b2 = c.post_all.new.self in
    let moved : HasPosted (machine g i.book.ether.setup) c.note.new.self (length c.in-Ok.output.messages.items) b2 =
    subst (λ (e : EtherParts g.row.M-Setup.Denot). HasPosted (machine g e.setup) c.note.new.self (length c.in-Ok.output.messages.items) b2) noted.ether c.post_all.ensures.posted in
    let whole : IsBook (machine g i.book.ether.setup) b2 = subst (λ (e : EtherParts g.row.M-Setup.Denot). IsBook (machine g e.setup) b2) (moved.ether ∙ noted.ether) c.is_whole.ensures in
    let given : IsGiven c.in-Ok.output.place c.in-Ok.output.effects.items c.in-Ok-outputs.outcome.told.value =
    c.in-Ok-outputs.ensures.given in
    let handed : HandsOut (hands (machine g i.book.ether.setup) c.in-Ok.output.effects.items) (g.U.Upstream.tally i.upstream) (g.U.Upstream.tally c.hand_all.new.upstream) =
    subst (λ (l : List g.row.M-Effect.Denot). HandsOut (hands (machine g i.book.ether.setup) l) (g.U.Upstream.tally i.upstream) (g.U.Upstream.tally c.hand_all.new.upstream)) (c.deref-in-Ok.ensures.value ∙ ap (λ (w : Vec g.row.M-Effect.Denot Global). w.items) c.in-Ok-outputs.ensures.effects) (c.hand_all.ensures i.book.ether.setup) in
    let out : TurnOutput g.row.M-Command.Denot g.row.M-Effect.Denot = record { posted_to = c.in-Ok-outputs.posted_to; replaced = c.post_all.new.replaced; place = c.in-Ok.output.place; effects = c.in-Ok-outputs.effects } in
    let now = cell_of b2 c.step.new.self c.hand_all.new.upstream i.phase i.refused c.of-self-inside.result in
    subst (λ (z : CellRoom g.row.M-Setup.Denot g.row.M.Denot g.row.S.Denot g.row.M-Command.Denot g.row.M-Line.Denot g.row.M-Target.Denot g.row.M-Effect.Denot g.row.M-Played.Denot g.row.U.Denot × NodeInput g.row.M-Command.Denot g.row.M-Line.Denot).
    IsTurn (machine g z.0.parts.ether.setup) g.U.Upstream.tally z.0.parts z.1 out now) (λ d. (c.self.view_is d, c.requires.told d))
    (turn_is (machine g i.book.ether.setup) (kept g) g.U.Upstream.tally i.book i.node i.upstream i.phase i.refused i.shown c.self.invariant.0 up c.args.told c.in-Ok.output c.step.new.self a.0 a.1
    c.in-Ok-outputs.outcome.told.value c.note.new.self noted b2 moved c.hand_all.new.upstream c.of-self-inside.result whole
    (c.of-self-inside.ensures ∙ ap (λ (s : NodeState g.row.M-Command.Denot). fields_of (seen s [])) c.state-in-Ok.ensures)
    given handed out refl c.in-Ok-outputs.ensures.effects (c.in-Ok-outputs.ensures.posted ∙ ap (map to_of) c.deref.ensures.value) c.post_all.ensures.replaced)

pub note-requires-in-Refused-clause-out : goal.note-requires-in-Refused-clause-out
note-requires-in-Refused-clause-out g c =
    let i = c.self.inside in
    let up : i.phase ≡ Up = ap (λ (z : RoomOf g). z.parts.phase) c.self.view_is ∙ c.requires.up in
    let a = acted g _ _ c.args.input c.args.told c.input_of.result i.node c.step.new.self (Err c.in-Err.fault) c.self.invariant.0.setup c.input_of.ensures c.requires.told c.in-Err.ensures in
    let v = view_of i.book.pass in
    let still = declined (machine g i.book.ether.setup) (kept g) _ c.self.invariant.0 up c.args.told c.in-Refused.refusal c.step.new.self
    (refused_case (machine g i.book.ether.setup) (kept g) _ i.node c.step.new.self c.in-Err.fault c.in-Refused.refusal c.in-Refused.is a.0) in
    λ honest. ap (λ (o : OutcomeOf' g). out_of (machine g i.book.ether.setup) o) c.of-outcome.ensures.0 ∙ still.out honest
    ∙ ap (λ (e : EventOf' g). own_out (machine g i.book.ether.setup) v.size (suc v.node) v.state e) (sym c.done-in-Refused.ensures.told)

pub invariant_of-self-in-Refused : goal.invariant_of-self-in-Refused
invariant_of-self-in-Refused g c =
    let i = c.self.inside in
    let up : i.phase ≡ Up = ap (λ (z : RoomOf g). z.parts.phase) c.self.view_is ∙ c.requires.up in
    let a = acted g _ _ c.args.input c.args.told c.input_of.result i.node c.step.new.self (Err c.in-Err.fault) c.self.invariant.0.setup c.input_of.ensures c.requires.told c.in-Err.ensures in
    let d = refused_case (machine g i.book.ether.setup) (kept g) _ i.node c.step.new.self c.in-Err.fault c.in-Refused.refusal c.in-Refused.is a.0 in
    let noted = noted_refused g i.book.ether.setup i.book c.note-in-Refused.new.self c.done-in-Refused.result.told.value c.args.told c.of-outcome.result.told.value c.in-Refused.refusal c.done-in-Refused.ensures.told c.of-outcome.ensures.0 c.note-in-Refused.ensures in
    let b1 = c.note-in-Refused.new.self in
    let m = machine g i.book.ether.setup in
    let still = declined m (kept g) (cell_of i.book i.node i.upstream i.phase i.refused i.shown) c.self.invariant.0 up c.args.told c.in-Refused.refusal c.step.new.self d in (
      subst (λ (z : EtherParts g.row.M-Setup.Denot × Inner g). IsCell (machine g z.0.setup) (kept g) (cell_of b1 z.1 i.upstream i.phase i.refused i.shown)) (λ t. (sym noted.ether t, sym d.same t))
          (still_cell m (kept g) g.U.Upstream.tally i.book i.node i.upstream i.phase i.refused i.shown c.self.invariant.0 up (Does c.args.told) (Refused c.in-Refused.refusal) b1 still noted
          (subst (λ (e : EtherParts g.row.M-Setup.Denot). IsBook (machine g e.setup) b1) noted.ether c.is_whole-in-Refused.ensures)),
      refusal_keeps m g.M.Marking.marked (view_of i.book.pass) (view_of b1.pass) i.asked i.reached c.self.invariant.1 noted.ticket c.args.told c.in-Refused.refusal noted.view still.out c.larger-self-inside-in-Refused.result
          (search rules),
    )

pub returns-in-Refused-clause-turn : goal.returns-in-Refused-clause-turn
returns-in-Refused-clause-turn g c =
    let i = c.self.inside in
    let up : i.phase ≡ Up = ap (λ (z : RoomOf g). z.parts.phase) c.self.view_is ∙ c.requires.up in
    let a = acted g _ _ c.args.input c.args.told c.input_of.result i.node c.step.new.self (Err c.in-Err.fault) c.self.invariant.0.setup c.input_of.ensures c.requires.told c.in-Err.ensures in
    let d = refused_case (machine g i.book.ether.setup) (kept g) _ i.node c.step.new.self c.in-Err.fault c.in-Refused.refusal c.in-Refused.is a.0 in
    let noted = noted_refused g i.book.ether.setup i.book c.note-in-Refused.new.self c.done-in-Refused.result.told.value c.args.told c.of-outcome.result.told.value c.in-Refused.refusal c.done-in-Refused.ensures.told c.of-outcome.ensures.0 c.note-in-Refused.ensures in
    let b1 = c.note-in-Refused.new.self in
    let event = still_event (machine g i.book.ether.setup) (kept g) g.U.Upstream.tally i.book i.node i.upstream i.phase i.refused i.shown c.self.invariant.0 up (Does c.args.told) (Refused c.in-Refused.refusal) b1
    (declined (machine g i.book.ether.setup) (kept g) _ c.self.invariant.0 up c.args.told c.in-Refused.refusal c.step.new.self d) noted refl in
    subst (λ (f : NodeFault). IsNoTurn (machine g c.args.self.now.parts.ether.setup) g.U.Upstream.tally c.args.self.now.parts c.args.input (OfNode f) (cell_of b1 c.step.new.self i.upstream i.phase i.refused i.shown)) (sym c.in-Refused.is)
    (subst (λ (z : (CellRoom g.row.M-Setup.Denot g.row.M.Denot g.row.S.Denot g.row.M-Command.Denot g.row.M-Line.Denot g.row.M-Target.Denot g.row.M-Effect.Denot g.row.M-Played.Denot g.row.U.Denot × NodeInput g.row.M-Command.Denot g.row.M-Line.Denot) × Inner g).
    IsEvent (machine g z.0.0.parts.ether.setup) g.U.Upstream.tally z.0.0.parts (Does z.0.1) (Refused c.in-Refused.refusal) (cell_of b1 z.1 i.upstream i.phase i.refused i.shown)) (λ t. ((c.self.view_is t, c.requires.told t), sym d.same t)) event)

pub invariant_of-self-in-Err-step : goal.invariant_of-self-in-Err-step
invariant_of-self-in-Err-step g c =
    let i = c.self.inside in
    let up : i.phase ≡ Up = ap (λ (z : RoomOf g). z.parts.phase) c.self.view_is ∙ c.requires.up in
    let a = acted g _ _ c.args.input c.args.told c.input_of.result i.node c.step.new.self (Err c.in-Err.fault) c.self.invariant.0.setup c.input_of.ensures c.requires.told c.in-Err.ensures in
    let d = down_case (machine g i.book.ether.setup) (kept g) _ i.node c.step.new.self c.in-Err.fault c.in_default-fault.not-Refused (c.self.invariant.0.up up) a.0 in
    let cell = fallen_cell (machine g i.book.ether.setup) (kept g) g.U.Upstream.tally i.book i.node i.upstream i.phase i.refused i.shown c.self.invariant.0 up c.args.told d.0 c.step.new.self d.1 a.1
    (heard g _ (view_of i.book.pass) c.args.input c.args.told (λ t. view_of (c.self.view_is t).parts.pass) c.requires.told c.requires.heard)
    c.args.copy (copy_here g _ c.args.self.now c.args.recording c.args.told c.args.copy c.requires.recording c.self.view_is c.requires.copy) in
    (cell, c.self.invariant.1)

pub returns-in_default-clause-turn : goal.returns-in_default-clause-turn
returns-in_default-clause-turn g c =
    let i = c.self.inside in
    let up : i.phase ≡ Up = ap (λ (z : RoomOf g). z.parts.phase) c.self.view_is ∙ c.requires.up in
    let falls = falls_in (machine g i.book.ether.setup) (kept g) g.U.Upstream.tally i.book i.node i.upstream i.phase i.refused i.shown c.self.invariant.0 up c.args.told c.args.copy true c.step.new.self in
    inl (subst (λ (z : CellRoom g.row.M-Setup.Denot g.row.M.Denot g.row.S.Denot g.row.M-Command.Denot g.row.M-Line.Denot g.row.M-Target.Denot g.row.M-Effect.Denot g.row.M-Played.Denot g.row.U.Denot × NodeInput g.row.M-Command.Denot g.row.M-Line.Denot).
    FallsInTurn (machine g z.0.parts.ether.setup) z.0.parts z.1 (cell_of i.book c.step.new.self i.upstream (DownInTurn c.args.told c.args.copy true) i.refused i.shown)) (λ d. (c.self.view_is d, c.requires.told d)) falls)
