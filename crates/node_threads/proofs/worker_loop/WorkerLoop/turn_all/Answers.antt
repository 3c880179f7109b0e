use Rattle.std.proofs.Common.{rules, ◌≤◌, length, Ok, Err, ◌∙◌}
use Rattle.raft_node.specs.Hosts.{hosted}
use Rattle.raft_node.specs.Machine.{Machine}
use Rattle.node_threads.specs.Rounds.{with_refusals}
use Rattle.node_threads.proofs.Gathered.{gathered_some, turned_some}
use Rattle.node_threads.proofs.worker_loop.WorkerLoop.turn_all.Given as given
use Rattle.node_threads.proofs.worker_loop.WorkerLoop.turn_all.Goals as goal

abbrev machine : (g : given.Over) → g.row.M-Setup.Denot → Machine
machine g s =
    hosted g.M.Hosted.blank g.M.Hosted.opened g.M.Hosted.shut g.M.Hosted.heard g.M.Hosted.claim g.M.Hosted.source (g.M.Machine.effects s)
    (g.M.Hosted.next_claim s) (g.M.Hosted.playback s) g.M.Hosted.class

pub returns-in-Ok-clause-turned : goal.returns-in-Ok-clause-turned
returns-in-Ok-clause-turned g c =
    let first = c.args.cell.now.parts in
    let some : 1 ≤ length c.args.inputs.items = c.has_some.ensures.some (search rules) in
    turned_some (machine g first.ether.setup) c.args.inputs.items first c.turn_all.new.self.parts (Ok c.in-Ok.answers.items) some c.in-Ok.ensures.done

pub returns-in-Ok-clause-gathered : goal.returns-in-Ok-clause-gathered
returns-in-Ok-clause-gathered g c =
    let first = c.args.cell.now.parts in
    let some : 1 ≤ length c.args.inputs.items = c.has_some.ensures.some (search rules) in
    gathered_some (machine g first.ether.setup) c.args.inputs.items first c.args.self.now.round c.turn_all.new.self.parts c.fail_each.new.self (Ok c.in-Ok.answers.items) some c.in-Ok.ensures.done
    (c.fail_each.ensures ∙ (λ i. with_refusals (c.as_slice.ensures.value i) c.args.self.now.round))

pub returns-in-Err-clause-turned : goal.returns-in-Err-clause-turned
returns-in-Err-clause-turned g c =
    let first = c.args.cell.now.parts in
    let some : 1 ≤ length c.args.inputs.items = c.has_some.ensures.some (search rules) in
    turned_some (machine g first.ether.setup) c.args.inputs.items first c.turn_all.new.self.parts (Err c.in-Err.fault) some c.in-Err.ensures.failed

pub returns-in-Err-clause-gathered : goal.returns-in-Err-clause-gathered
returns-in-Err-clause-gathered g c =
    let first = c.args.cell.now.parts in
    let some : 1 ≤ length c.args.inputs.items = c.has_some.ensures.some (search rules) in
    gathered_some (machine g first.ether.setup) c.args.inputs.items first c.args.self.now.round c.turn_all.new.self.parts c.fail.new.self (Err c.in-Err.fault) some c.in-Err.ensures.failed
    c.fail.ensures
