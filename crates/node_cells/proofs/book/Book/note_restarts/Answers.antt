use Rattle.std.proofs.Common.{rules, suc, subst}
use Rattle.raft_node.specs.Hosts.{hosted}
use Rattle.raft_node.specs.Machine.{Machine}
use Rattle.world_run.specs.declared.outcome.Outcome.TheVariants.{Quiet}
use Rattle.world_views.specs.declared.node_event.NodeEvent.TheVariants.{Restart}
use Rattle.ether.specs.Passes.{EtherParts, view_of}
use Rattle.node_cells.specs.Books.{HasNoted}
use Rattle.node_cells.proofs.Told.{heard_as, noted_as, out_as, whole_kept}
use Rattle.node_cells.proofs.Looping.{restart_out, restarting_first, restarting_next, restarting_room}
use Rattle.node_cells.proofs.book.Book.note_restarts.Given as given
use Rattle.node_cells.proofs.book.Book.note_restarts.Goals as goal

abbrev machine : (g : given.Over) → g.row.M-Setup.Denot → Machine
machine g s =
    hosted g.M.Hosted.blank g.M.Hosted.opened g.M.Hosted.shut g.M.Hosted.heard g.M.Hosted.claim g.M.Hosted.source (g.M.Machine.effects s)
    (g.M.Hosted.next_claim s) (g.M.Hosted.playback s) g.M.Hosted.class

pub loop-done-init : goal.loop-done-init
loop-done-init g c = restarting_first (machine g c.args.self.now.ether.setup) c.args.self.now

pub note-requires-clause-room : goal.note-requires-clause-room
note-requires-clause-room g c =
    restarting_room (machine g c.args.self.now.ether.setup) c.args.self.now c.loop-done.self c.loop-done.done c.args.count c.loop-done.invariant (search rules) c.requires.0 c.requires.1

pub note-requires-clause-heard : goal.note-requires-clause-heard
note-requires-clause-heard g c = heard_as (view_of c.loop-done.self.pass) c.of-event.result.told.value Restart c.of-event.ensures.0 (λ m e. absurd (cc e))

pub note-requires-clause-kept : goal.note-requires-clause-kept
note-requires-clause-kept g c = (whole_kept _ c.of-event.result Restart c.of-event.ensures, whole_kept _ c.of-outcome.result Quiet c.of-outcome.ensures)

pub note-requires-clause-out : goal.note-requires-clause-out
note-requires-clause-out g c =
    let M = machine g c.loop-done.self.ether.setup in
    let v = view_of c.loop-done.self.pass in
    out_as M v c.of-event.result.told.value Restart c.of-outcome.result.told.value Quiet c.of-event.ensures.0 c.of-outcome.ensures.0 (λ honest. restart_out M v.size (suc v.node) v.state)

pub loop-done-preserved : goal.loop-done-preserved
loop-done-preserved g c =
    let old = c.args.self.now in
    let now = c.loop-done.self in
    let M = machine g old.ether.setup in
    let d = c.note.new.self in
    let one : HasNoted M now Restart Quiet d =
    subst (λ (e : EtherParts g.row.M-Setup.Denot). HasNoted (machine g e.setup) now Restart Quiet d) c.loop-done.invariant.noted_all.ether
    (noted_as (machine g now.ether.setup) now d c.of-event.result.told.value Restart c.of-outcome.result.told.value Quiet c.of-event.ensures.0 c.of-outcome.ensures.0 c.note.ensures) in
    restarting_next M old now d c.loop-done.done c.loop-done.invariant one
