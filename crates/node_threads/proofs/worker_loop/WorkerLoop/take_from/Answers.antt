use Rattle.std.proofs.Common.{Option, Some, None, ap, refl, subst, arith}
use Rattle.raft_node.specs.Hosts.{hosted}
use Rattle.raft_node.specs.Machine.{Machine}
use Rattle.node_threads.specs.Work.{HasHadTurn, HasTaken}
use Rattle.node_threads.proofs.Going.{looked_in}
use Rattle.node_threads.proofs.worker_loop.WorkerLoop.take_from.Given as given
use Rattle.node_threads.proofs.worker_loop.WorkerLoop.take_from.Goals as goal

abbrev machine : (g : given.Over) → g.row.M-Setup.Denot → Machine
machine g s =
    hosted g.M.Hosted.blank g.M.Hosted.opened g.M.Hosted.shut g.M.Hosted.heard g.M.Hosted.claim g.M.Hosted.source (g.M.Machine.effects s)
    (g.M.Hosted.next_claim s) (g.M.Hosted.playback s) g.M.Hosted.class

pub returns-clause-taken : goal.returns-clause-taken
returns-clause-taken g c =
    let first = c.args.cell.now.parts in
    let between = c.next_from.new.cell.parts in
    let h = c.in-Some.ensures.taken in
    let M = machine g first.ether.setup in
    λ within.
    looked_in M g.U.Upstream.tally first c.args.from (Some c.in-Some.input) between c.turn.new.cell.parts h
    (subst (λ (s : g.row.M-Setup.Denot). HasHadTurn (machine g s) g.U.Upstream.tally between c.in-Some.input c.turn.new.cell.parts) (ap (λ e. e.setup) h.taken.same.ether) c.turn.ensures.turn)

pub returns-in_default-clause-taken : goal.returns-in_default-clause-taken
returns-in_default-clause-taken g c =
    let first = c.args.cell.now.parts in
    let M = machine g first.ether.setup in
    λ within.
    looked_in M g.U.Upstream.tally first c.args.from None c.next_from.new.cell.parts c.next_from.new.cell.parts
    (subst (λ (o : Option _). HasTaken M first c.args.from o c.next_from.new.cell.parts) c.in_default.is c.next_from.ensures.taken) refl

pub returns-then-value-from-clause-taken : goal.returns-then-value-from-clause-taken
returns-then-value-from-clause-taken g c =
    let over = c.if-value-from.true in
    let value = c.value.ensures.value in
    let size = c.size.ensures in
    λ within. absurd (omega (arith, within, over, value, size))
