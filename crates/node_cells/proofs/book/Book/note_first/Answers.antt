use Rattle.std.proofs.Common.{◌∙◌, ap, refl, arith, ◌≤◌, Ok, List, ℕ, suc, sym, subst}
use Rattle.raft_node.specs.Hosts.{hosted}
use Rattle.raft_node.specs.Machine.{Machine}
use Rattle.world_views.specs.Own.{EventOf}
use Rattle.ether.specs.Passes.{view_of}
use Rattle.world_run.specs.Told.{out_of}
use Rattle.world_run.specs.declared.outcome.Outcome.TheVariants.{Quiet}
use Rattle.node_cells.proofs.Told.{noted_as, whole_kept}
use Rattle.node_cells.specs.Books.{OutcomeOf, room_for}
use Rattle.node_cells.specs.Inputs.{Answer}
use Rattle.node_cells.specs.Restarts.{HasNotedAll}
use Rattle.node_cells.proofs.Noting.{one_noted}
use Rattle.node_cells.proofs.Restarting.{first_out}
use Rattle.node_cells.proofs.Started.{first_alone, heard_first, not_together}
use Rattle.node_cells.proofs.book.Book.note_first.Given as given
use Rattle.node_cells.proofs.book.Book.note_first.Goals as goal

abbrev machine : (g : given.Over) → g.row.M-Setup.Denot → Machine
machine g s =
    hosted g.M.Hosted.blank g.M.Hosted.opened g.M.Hosted.shut g.M.Hosted.heard g.M.Hosted.claim g.M.Hosted.source (g.M.Machine.effects s)
    (g.M.Hosted.next_claim s) (g.M.Hosted.playback s) g.M.Hosted.class

pub note-requires-clause-out : goal.note-requires-clause-out
note-requires-clause-out g c =
    let v = view_of c.args.self.now.pass in
    let M = machine g c.args.self.now.ether.setup in
    λ honest. ap (λ (o : OutcomeOf M). out_of M o) c.of-outcome.ensures.0
    ∙ first_out M v.size (suc v.node) v.state c.args.phase c.args.same c.first_event-event.result.told.value
    (not_together c.args.phase c.in_default.not-DownInTurns) c.first_event-event.ensures.told

pub note-requires-clause-kept : goal.note-requires-clause-kept
note-requires-clause-kept g c = (c.first_event-event.ensures.kept _ c.requires.copied, whole_kept _ c.of-outcome.result Quiet c.of-outcome.ensures)

pub note-requires-clause-heard : goal.note-requires-clause-heard
note-requires-clause-heard g c =
    heard_first (view_of c.args.self.now.pass) c.args.phase c.args.same c.first_event-event.result.told.value (not_together c.args.phase c.in_default.not-DownInTurns) c.requires.heard c.first_event-event.ensures.told

pub note-requires-clause-room : goal.note-requires-clause-room
note-requires-clause-room g c =
    let one = first_alone c.args.phase (not_together c.args.phase c.in_default.not-DownInTurns) in
    let tickets = c.requires.room.1 in
    (subst (λ (n : ℕ). room_for c.args.self.now.recording n ≤ c.args.self.now.room) one c.requires.room.0, omega (arith, one, tickets))

pub returns-in_default : goal.returns-in_default
returns-in_default g c =
    let M = machine g c.args.self.now.ether.setup in
    subst (λ (es : List (EventOf M × Answer)). HasNotedAll M c.args.self.now es c.note.new.self) (sym c.first_event-event.ensures.told)
    (one_noted M c.args.self.now c.note.new.self c.first_event-event.result.told.value (Ok tt)
    (noted_as M c.args.self.now c.note.new.self c.first_event-event.result.told.value c.first_event-event.result.told.value c.of-outcome.result.told.value Quiet refl c.of-outcome.ensures.0 c.note.ensures))
