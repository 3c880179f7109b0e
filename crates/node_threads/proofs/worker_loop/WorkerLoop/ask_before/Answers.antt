use Rattle.std.proofs.Common.{◌≡◌, Bool, refl, sym, ◌∙◌, subst}
use Rattle.raft_node.specs.Hosts.{hosted}
use Rattle.raft_node.specs.Machine.{Machine}
use Rattle.raft_log.specs.Positions.{leader_of}
use Rattle.node_threads.specs.Asking.{leader_in}
use Rattle.node_threads.specs.Forwarding.{asks_first}
use Rattle.node_threads.specs.Waiting.{account_of}
use Rattle.node_threads.specs.Work.{AsksBefore}
use Rattle.node_threads.proofs.worker_loop.WorkerLoop.ask_before.Given as given
use Rattle.node_threads.proofs.worker_loop.WorkerLoop.ask_before.Goals as goal

abbrev machine : (g : given.Over) → g.row.M-Setup.Denot → Machine
machine g s =
    hosted g.M.Hosted.blank g.M.Hosted.opened g.M.Hosted.shut g.M.Hosted.heard g.M.Hosted.claim g.M.Hosted.source (g.M.Machine.effects s)
    (g.M.Hosted.next_claim s) (g.M.Hosted.playback s) g.M.Hosted.class

pub returns-then-asks_first : goal.returns-then-asks_first
returns-then-asks_first g c =
    let first = c.args.cell.now.parts in
    let forwarded = c.args.self.now.forwarded in
    let leader : c.leader-leader.result ≡ leader_in first = c.leader-leader.ensures ∙ (λ i. leader_of (c.state.ensures.state i).standing.position) in
    let is : c.asks_first.result ≡ asks_first forwarded (leader_in first) = c.asks_first.ensures ∙ (λ i. asks_first forwarded (leader i)) in
    subst (λ (asks : Bool). AsksBefore (machine g first.ether.setup) g.U.Upstream.tally asks (account_of c.args.self.now) first (account_of c.ask_one.new.self) c.ask_one.new.cell.parts) (sym c.if-asks_first.true ∙ is) (c.ask_one.result, c.ask_one.ensures)

pub returns-else-asks_first : goal.returns-else-asks_first
returns-else-asks_first g c =
    let first = c.args.cell.now.parts in
    let forwarded = c.args.self.now.forwarded in
    let leader : c.leader-leader.result ≡ leader_in first = c.leader-leader.ensures ∙ (λ i. leader_of (c.state.ensures.state i).standing.position) in
    let is : c.asks_first.result ≡ asks_first forwarded (leader_in first) = c.asks_first.ensures ∙ (λ i. asks_first forwarded (leader i)) in
    subst (λ (asks : Bool). AsksBefore (machine g first.ether.setup) g.U.Upstream.tally asks (account_of c.args.self.now) first (account_of c.args.self.now) first) (sym c.if-asks_first.false ∙ is) (refl, refl)
