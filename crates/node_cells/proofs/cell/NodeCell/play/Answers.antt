use Rattle.std.proofs.Common.{Some, suc, ap, ◌≡◌, ℕ, List, Result, Ok, Err, Vec, Global, refl, sym, ◌∙◌, subst}
use Rattle.raft_log.specs.Seen.{seen}
use Rattle.raft_log.specs.declared.message.Message.{Message}
use Rattle.node_steps.specs.declared.refusal.Refusal.{Refusal}
use Rattle.raft_node.specs.declared.input.Looked.{Looked as PlayedAt}
use Rattle.raft_node.specs.declared.node_fault.NodeFault.{NodeFault}
use Rattle.raft_node.specs.declared.node_fault.NodeFault.TheVariants.{Refused as Declined}
use Rattle.raft_node.specs.Hosts.{hosted}
use Rattle.raft_node.specs.Machine.{Machine}
use Rattle.raft_node.specs.Parts.{Keeper, Parts, keeper}
use Rattle.raft_node.specs.Stepping.{IsLooked, turned}
use Rattle.raft_node.specs.Steps.{Looks, Turn}
use Rattle.raft_node.specs.Steps as steps
use Rattle.world_run.specs.declared.outcome.Outcome.{Outcome}
use Rattle.world_run.specs.declared.outcome.Outcome.TheVariants.{Quiet, Left, Looked, Refused, Missing}
use Rattle.world_run.specs.Told.{out_of}
use Rattle.world_views.specs.declared.node_event.NodeEvent.TheVariants.{Look}
use Rattle.ether.specs.Passes.{EtherParts, view_of}
use Rattle.world_views.specs.declared.node_event.NodeEvent.{NodeEvent}
use Rattle.world_views.specs.Own.{own_out}
use Rattle.node_cells.specs.declared.for_record.ForRecord.{ForRecord}
use Rattle.node_cells.specs.declared.record.Recording.{Recording}
use Rattle.node_cells.specs.Books.{BookParts, HasNoted, IsBook}
use Rattle.node_cells.specs.Copies.{IsKept}
use Rattle.node_cells.specs.declared.cell_fault.CellFault.TheVariants.{Node as OfNode}
use Rattle.node_cells.specs.declared.phase.Phase.TheVariants.{Up}
use Rattle.node_cells.specs.Cells.{CellRoom, IsCell, cell_of}
use Rattle.node_cells.specs.Turns.{IsEvent, IsLookedAt, IsNoLook, IsPlayed}
use Rattle.node_cells.proofs.Looking.{look_is}
use Rattle.node_cells.proofs.MarksKept.{look_keeps}
use Rattle.node_cells.proofs.Showing.{looked_still}
use Rattle.node_cells.proofs.Turning.{still_cell, still_event}
use Rattle.node_cells.proofs.cell.NodeCell.play.Given as given
use Rattle.node_cells.proofs.cell.NodeCell.play.Goals as goal

abbrev machine : (g : given.Over) → g.row.M-Setup.Denot → Machine
machine g s =
    hosted g.M.Hosted.blank g.M.Hosted.opened g.M.Hosted.shut g.M.Hosted.heard g.M.Hosted.claim g.M.Hosted.source (g.M.Machine.effects s)
    (g.M.Hosted.next_claim s) (g.M.Hosted.playback s) g.M.Hosted.class

abbrev kept : (g : given.Over) → Keeper g.row.S.Denot g.row.M-Command.Denot
kept g = keeper g.S.Stable.saved g.S.Stable.may_stand g.S.Stable.condition

abbrev Inner : (g : given.Over) → Type 0
Inner g = Parts g.row.M-Setup.Denot g.row.M.Denot g.row.S.Denot g.row.M-Command.Denot

-- the result of the look of a node at this setup
abbrev Comes : (g : given.Over) → g.row.M-Setup.Denot → Inner g → ℕ → g.row.M-Target.Denot → Outcome g.row.M-Effect.Denot g.row.M-Played.Denot → Type 0
Comes g s q from target o =
    (sent : List (Message g.row.M-Command.Denot)) → turned (machine g s) (Looks from target) q sent ≡ (let t : Turn (machine g s) = record { node = seen q.state sent; out = out_of (machine g s) o } in t)

abbrev RoomOf : given.Over → Type 0
RoomOf g = CellRoom g.row.M-Setup.Denot g.row.M.Denot g.row.S.Denot g.row.M-Command.Denot g.row.M-Line.Denot g.row.M-Target.Denot g.row.M-Effect.Denot g.row.M-Played.Denot g.row.U.Denot

abbrev BookOf : given.Over → Type 0
BookOf g = BookParts g.row.M-Setup.Denot g.row.M-Command.Denot g.row.M-Line.Denot g.row.M-Target.Denot g.row.M-Effect.Denot g.row.M-Played.Denot

abbrev SeenOf : given.Over → Type 0
SeenOf g = NodeEvent g.row.M-Command.Denot g.row.M-Line.Denot g.row.M-Target.Denot

abbrev CameOf : given.Over → Type 0
CameOf g = Outcome g.row.M-Effect.Denot g.row.M-Played.Denot

-- what comes out when lines are played
played_out : (g : given.Over) (s : g.row.M-Setup.Denot) (l : PlayedAt g.row.M-Played.Denot) (o : CameOf g) → IsPlayed l.place l.lines.items o → out_of (machine g s) o ≡ steps.Looked l.place l.lines.items
played_out g s l Quiet h = absurd h
played_out g s l (Left p left) h = absurd h
played_out g s l (Looked p lines) h = λ d. steps.Looked (h.0 d) (h.1 d)
played_out g s l (Refused refusal) h = absurd h
played_out g s l Missing h = absurd h

played : (g : given.Over) (s t : g.row.M-Setup.Denot) (q : Inner g) (from : ℕ) (target : g.row.M-Target.Denot) (l : PlayedAt g.row.M-Played.Denot) (o : CameOf g) → s ≡ t → IsPlayed l.place l.lines.items o
    → (let r : Result (PlayedAt g.row.M-Played.Denot) NodeFault = Ok l in IsLooked (machine g s) from target q r) → Comes g t q from target o
played g s t q from target l o e is h =
    subst (λ (z : g.row.M-Setup.Denot). Comes g z q from target o) e
    (λ sent. h.1 sent ∙ (λ d. let t : Turn (machine g s) = record { node = seen q.state sent; out = sym (played_out g s l o is) d } in t))

-- what was noted is the look
noted_look : (g : given.Over) (s : g.row.M-Setup.Denot) (b d : BookOf g) (e f : SeenOf g) (o : CameOf g) → e ≡ f → HasNoted (machine g s) b e o d → HasNoted (machine g s) b f o d
noted_look g s b d e f o is h = subst (λ (z : SeenOf g). HasNoted (machine g s) b z o d) is h

noted_refused : (g : given.Over) (s : g.row.M-Setup.Denot) (b d : BookOf g) (e f : SeenOf g) (o p : CameOf g) → e ≡ f → o ≡ p → HasNoted (machine g s) b e o d → HasNoted (machine g s) b f p d
noted_refused g s b d e f o p is out h = subst (λ (z : SeenOf g × CameOf g). HasNoted (machine g s) b z.0 z.1 d) (λ t. (is t, out t)) h

outcome_here : (g : given.Over) (b z : RoomOf g) (recording : Recording) (o : ForRecord (CameOf g)) → recording ≡ z.parts.recording → b ≡ z → IsKept recording o → IsKept b.parts.recording o
outcome_here g b z recording o e same is = λ on. is (e ∙ ap (λ (y : RoomOf g). y.parts.recording) (sym same) ∙ on)

-- what exists anyway is kept
whole_kept : {A : Type 0} (recording : Recording) (r : ForRecord A) (x : A) → (r.told.value ≡ x) × (r.kept ≡ Some x) → IsKept recording r
whole_kept recording r x h = λ on. h.1 ∙ ap Some (sym h.0)

behind : (g : given.Over) (s t : g.row.M-Setup.Denot) (q : Inner g) (from : ℕ) (target : g.row.M-Target.Denot) (fault : NodeFault) (refusal : Refusal) → s ≡ t → fault ≡ Declined refusal
    → (let r : Result (PlayedAt g.row.M-Played.Denot) NodeFault = Err fault in IsLooked (machine g s) from target q r) → Comes g t q from target (Refused refusal)
behind g s t q from target fault refusal e is h =
    let there = subst (λ (f : NodeFault). let r : Result (PlayedAt g.row.M-Played.Denot) NodeFault = Err f in IsLooked (machine g s) from target q r) is h in
    subst (λ (z : g.row.M-Setup.Denot). Comes g z q from target (Refused refusal)) e there.1

pub note-requires-clause-kept : goal.note-requires-clause-kept
note-requires-clause-kept g c =
    (whole_kept _ c.of-event.result _ c.of-event.ensures, outcome_here g _ c.args.self.now c.args.recording c.in-Ok-played_of.outcome c.requires.recording c.self.view_is c.in-Ok-played_of.ensures.kept)

pub note-requires-in-Refused-clause-kept : goal.note-requires-in-Refused-clause-kept
note-requires-in-Refused-clause-kept g c = (whole_kept _ c.of-event-in-Refused.result _ c.of-event-in-Refused.ensures, whole_kept _ c.of.result _ c.of.ensures)

pub note-requires-clause-out : goal.note-requires-clause-out
note-requires-clause-out g c =
    let i = c.self.inside in
    let up : i.phase ≡ Up = ap (λ (z : RoomOf g). z.parts.phase) c.self.view_is ∙ c.requires.up in
    let o = c.in-Ok-played_of.outcome.told.value in
    let comes = played g _ _ i.node c.args.from_place c.args.target c.in-Ok.looked o c.self.invariant.0.setup c.in-Ok-played_of.ensures.played c.in-Ok.ensures in
    let v = view_of i.book.pass in
    λ honest. (looked_still (machine g i.book.ether.setup) (kept g) _ c.self.invariant.0 up c.args.from_place c.args.target _ comes).out honest
    ∙ ap (λ (e : SeenOf g). own_out (machine g i.book.ether.setup) v.size (suc v.node) v.state e) (sym c.of-event.ensures.0)

pub invariant_of-self : goal.invariant_of-self
invariant_of-self g c =
    let i = c.self.inside in
    let up : i.phase ≡ Up = ap (λ (z : RoomOf g). z.parts.phase) c.self.view_is ∙ c.requires.up in
    let o = c.in-Ok-played_of.outcome.told.value in
    let comes = played g _ _ i.node c.args.from_place c.args.target c.in-Ok.looked o c.self.invariant.0.setup c.in-Ok-played_of.ensures.played c.in-Ok.ensures in
    let noted = noted_look g i.book.ether.setup i.book c.note.new.self c.of-event.result.told.value (Look c.args.from_place c.args.target) o c.of-event.ensures.0 c.note.ensures in (
      subst (λ (e : EtherParts g.row.M-Setup.Denot). IsCell (machine g e.setup) (kept g) (cell_of c.note.new.self i.node i.upstream i.phase i.refused i.shown)) (sym c.note.ensures.ether)
          (still_cell (machine g i.book.ether.setup) (kept g) g.U.Upstream.tally i.book i.node i.upstream i.phase i.refused i.shown c.self.invariant.0 up (Look c.args.from_place c.args.target) o c.note.new.self
          (looked_still (machine g i.book.ether.setup) (kept g) _ c.self.invariant.0 up c.args.from_place c.args.target _ comes) noted
          (subst (λ (e : EtherParts g.row.M-Setup.Denot). IsBook (machine g e.setup) c.note.new.self) c.note.ensures.ether c.is_whole.ensures)),
      look_keeps (machine g i.book.ether.setup) g.M.Marking.marked (view_of i.book.pass) (view_of c.note.new.self.pass) i.asked i.reached c.self.invariant.1 noted.ticket c.args.from_place c.args.target noted.view,
    )

pub returns-in-Ok-played_of-clause-look : goal.returns-in-Ok-played_of-clause-look
returns-in-Ok-played_of-clause-look g c =
    let i = c.self.inside in
    let up : i.phase ≡ Up = ap (λ (z : RoomOf g). z.parts.phase) c.self.view_is ∙ c.requires.up in
    let o = c.in-Ok-played_of.outcome.told.value in
    let comes = played g _ _ i.node c.args.from_place c.args.target c.in-Ok.looked o c.self.invariant.0.setup c.in-Ok-played_of.ensures.played c.in-Ok.ensures in
    subst (λ (w : Vec g.row.M-Played.Denot Global). let l : PlayedAt g.row.M-Played.Denot = record { place = c.in-Ok.looked.place; lines = w } in
    IsLookedAt (machine g c.args.self.now.parts.ether.setup) g.U.Upstream.tally c.args.self.now.parts c.args.from_place c.args.target l (cell_of c.note.new.self i.node i.upstream i.phase i.refused i.shown)) (sym c.in-Ok-played_of.ensures.lines)
    (subst (λ (z : CellRoom g.row.M-Setup.Denot g.row.M.Denot g.row.S.Denot g.row.M-Command.Denot g.row.M-Line.Denot g.row.M-Target.Denot g.row.M-Effect.Denot g.row.M-Played.Denot g.row.U.Denot).
    IsLookedAt (machine g z.parts.ether.setup) g.U.Upstream.tally z.parts c.args.from_place c.args.target c.in-Ok.looked (cell_of c.note.new.self i.node i.upstream i.phase i.refused i.shown)) c.self.view_is
    (look_is (machine g i.book.ether.setup) (kept g) g.U.Upstream.tally i.book c.note.new.self i.node i.upstream i.phase i.refused i.shown c.self.invariant.0 up c.args.from_place c.args.target c.in-Ok.looked o
    (played_out g i.book.ether.setup c.in-Ok.looked o c.in-Ok-played_of.ensures.played) comes (noted_look g i.book.ether.setup i.book c.note.new.self c.of-event.result.told.value (Look c.args.from_place c.args.target) o c.of-event.ensures.0 c.note.ensures)))

pub note-requires-in-Refused-clause-out : goal.note-requires-in-Refused-clause-out
note-requires-in-Refused-clause-out g c =
    let i = c.self.inside in
    let up : i.phase ≡ Up = ap (λ (z : RoomOf g). z.parts.phase) c.self.view_is ∙ c.requires.up in
    let comes = behind g _ _ i.node c.args.from_place c.args.target c.in-Err.fault c.in-Refused.refusal c.self.invariant.0.setup c.in-Refused.is c.in-Err.ensures in
    let v = view_of i.book.pass in
    λ honest. ap (λ (o : CameOf g). out_of (machine g i.book.ether.setup) o) c.of.ensures.0
    ∙ (looked_still (machine g i.book.ether.setup) (kept g) _ c.self.invariant.0 up c.args.from_place c.args.target _ comes).out honest
    ∙ ap (λ (e : SeenOf g). own_out (machine g i.book.ether.setup) v.size (suc v.node) v.state e) (sym c.of-event-in-Refused.ensures.0)

pub invariant_of-self-in-Refused : goal.invariant_of-self-in-Refused
invariant_of-self-in-Refused g c =
    let i = c.self.inside in
    let up : i.phase ≡ Up = ap (λ (z : RoomOf g). z.parts.phase) c.self.view_is ∙ c.requires.up in
    let comes = behind g _ _ i.node c.args.from_place c.args.target c.in-Err.fault c.in-Refused.refusal c.self.invariant.0.setup c.in-Refused.is c.in-Err.ensures in
    let noted = noted_refused g i.book.ether.setup i.book c.note-in-Refused.new.self c.of-event-in-Refused.result.told.value (Look c.args.from_place c.args.target) c.of.result.told.value (Refused c.in-Refused.refusal) c.of-event-in-Refused.ensures.0 c.of.ensures.0 c.note-in-Refused.ensures in (
      subst (λ (e : EtherParts g.row.M-Setup.Denot). IsCell (machine g e.setup) (kept g) (cell_of c.note-in-Refused.new.self i.node i.upstream i.phase i.refused i.shown)) (sym c.note-in-Refused.ensures.ether)
          (still_cell (machine g i.book.ether.setup) (kept g) g.U.Upstream.tally i.book i.node i.upstream i.phase i.refused i.shown c.self.invariant.0 up (Look c.args.from_place c.args.target) (Refused c.in-Refused.refusal) c.note-in-Refused.new.self
          (looked_still (machine g i.book.ether.setup) (kept g) _ c.self.invariant.0 up c.args.from_place c.args.target _ comes) noted
          (subst (λ (e : EtherParts g.row.M-Setup.Denot). IsBook (machine g e.setup) c.note-in-Refused.new.self) c.note-in-Refused.ensures.ether c.is_whole-in-Refused.ensures)),
      look_keeps (machine g i.book.ether.setup) g.M.Marking.marked (view_of i.book.pass) (view_of c.note-in-Refused.new.self.pass) i.asked i.reached c.self.invariant.1 noted.ticket c.args.from_place c.args.target noted.view,
    )

pub returns-in-Refused-clause-look : goal.returns-in-Refused-clause-look
returns-in-Refused-clause-look g c =
    let i = c.self.inside in
    let up : i.phase ≡ Up = ap (λ (z : RoomOf g). z.parts.phase) c.self.view_is ∙ c.requires.up in
    let comes = behind g _ _ i.node c.args.from_place c.args.target c.in-Err.fault c.in-Refused.refusal c.self.invariant.0.setup c.in-Refused.is c.in-Err.ensures in
    let now = cell_of c.note-in-Refused.new.self i.node i.upstream i.phase i.refused i.shown in
    subst (λ (f : NodeFault). IsNoLook (machine g c.args.self.now.parts.ether.setup) g.U.Upstream.tally c.args.self.now.parts c.args.from_place c.args.target (OfNode f) now) (sym c.in-Refused.is)
    (subst (λ (z : CellRoom g.row.M-Setup.Denot g.row.M.Denot g.row.S.Denot g.row.M-Command.Denot g.row.M-Line.Denot g.row.M-Target.Denot g.row.M-Effect.Denot g.row.M-Played.Denot g.row.U.Denot).
    IsEvent (machine g z.parts.ether.setup) g.U.Upstream.tally z.parts (Look c.args.from_place c.args.target) (Refused c.in-Refused.refusal) now) c.self.view_is
    (still_event (machine g i.book.ether.setup) (kept g) g.U.Upstream.tally i.book i.node i.upstream i.phase i.refused i.shown c.self.invariant.0 up (Look c.args.from_place c.args.target) (Refused c.in-Refused.refusal) c.note-in-Refused.new.self
    (looked_still (machine g i.book.ether.setup) (kept g) _ c.self.invariant.0 up c.args.from_place c.args.target _ comes) (noted_refused g i.book.ether.setup i.book c.note-in-Refused.new.self c.of-event-in-Refused.result.told.value (Look c.args.from_place c.args.target) c.of.result.told.value (Refused c.in-Refused.refusal) c.of-event-in-Refused.ensures.0 c.of.ensures.0 c.note-in-Refused.ensures) refl))
