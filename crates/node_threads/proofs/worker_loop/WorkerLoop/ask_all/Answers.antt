use Rattle.std.proofs.Common.{rules, ◌≡◌, false, ap, subst}
use Rattle.node_threads.specs.Waiting.{account_of}
use Rattle.node_threads.specs.Work.{HasAskedEach}
use Rattle.node_threads.proofs.Seen.{asks_behind, asks_together, none_left, not_together}
use Rattle.node_threads.proofs.worker_loop.WorkerLoop.ask_all.Given as given
use Rattle.node_threads.proofs.worker_loop.WorkerLoop.ask_all.Goals as goal
use Rattle.raft_node.specs.Hosts.{hosted}
use Rattle.raft_node.specs.Machine.{Machine}

abbrev machine : (g : given.Over) → g.row.M-Setup.Denot → Machine
machine g s =
    hosted g.M.Hosted.blank g.M.Hosted.opened g.M.Hosted.shut g.M.Hosted.heard g.M.Hosted.claim g.M.Hosted.source (g.M.Machine.effects s)
    (g.M.Hosted.next_claim s) (g.M.Hosted.playback s) g.M.Hosted.class

pub returns-then-ask_together : goal.returns-then-ask_together
returns-then-ask_together g c =
    let first = c.args.cell.now.parts in
    asks_together (machine g first.ether.setup) g.U.Upstream.tally (account_of c.args.self.now) c.ask_together.result first _ (account_of c.ask_together.new.self)
    c.ask_together.new.cell.parts
    (search rules) (none_left c.has_waiting.result c.ask_together.new.self.requests.waiting.items c.has_waiting.ensures.none c.has_waiting.ensures.some) c.ask_together.ensures

pub returns : goal.returns
returns g c =
    let first = c.args.cell.now.parts in
    let between = c.ask_together.new.cell.parts in
    let new = c.ask_each.new.cell.parts in
    let waited = account_of c.args.self.now in
    let still = account_of c.ask_together.new.self in
    let now = account_of c.ask_each.new.self in
    let tally = g.U.Upstream.tally in
    let no : c.ask_together.result ≡ false = search rules in
    let same = not_together (machine g first.ether.setup) tally waited c.ask_together.result first still between no c.ask_together.ensures in
    asks_behind (machine g first.ether.setup) tally waited first still between c.ask_each.result now new same.0 same.1
    (subst (λ (s : g.row.M-Setup.Denot). HasAskedEach (machine g s) tally still between c.ask_each.result now new) (ap (λ p. p.ether.setup) same.1) c.ask_each.ensures)
