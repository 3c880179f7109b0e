use Rattle.std.proofs.Common.{rules, ◌≡◌, ◌≤◌, [], true, length, ap, sym, ◌∙◌, subst, arith}
use Rattle.node_threads.specs.Asking.{term_in}
use Rattle.node_threads.specs.Reports.{leads_in}
use Rattle.node_threads.specs.Together.{HasTurnedAll}
use Rattle.node_threads.specs.Waiting.{Account, AsksFront, account_of}
use Rattle.node_threads.proofs.Asked.{front_asked, front_left}
use Rattle.node_threads.proofs.worker_loop.WorkerLoop.ask_together.Given as given
use Rattle.node_threads.proofs.worker_loop.WorkerLoop.ask_together.Goals as goal
use Rattle.raft_node.specs.Hosts.{hosted}
use Rattle.raft_node.specs.Machine.{Machine}

abbrev machine : (g : given.Over) → g.row.M-Setup.Denot → Machine
machine g s =
    hosted g.M.Hosted.blank g.M.Hosted.opened g.M.Hosted.shut g.M.Hosted.heard g.M.Hosted.claim g.M.Hosted.source (g.M.Machine.effects s)
    (g.M.Hosted.next_claim s) (g.M.Hosted.playback s) g.M.Hosted.class

pub returns : goal.returns
returns g c =
    let first = c.args.cell.now.parts in
    let new = c.turn_all.new.cell.parts in
    let waiting = c.args.self.now.requests.waiting.items in
    let inputs = c.next_asks-inputs.result.items in
    let M = machine g first.ether.setup in
    let yes : leads_in first ≡ true = sym c.leads.ensures ∙ search rules in
    let some : 1 ≤ length inputs = c.has_some.ensures.some (search rules) in
    let left = c.next_asks-inputs.new.self in
    let not_none = λ (none : inputs ≡ []). let short : length inputs ≡ 0 = ap length none in let clash : ⊥ = omega (arith, some, short) in clash in
    let is = front_asked waiting left.requests.waiting.items inputs c.next_asks-inputs.ensures.front not_none in
    let behind = front_left waiting left.requests.waiting.items inputs c.next_asks-inputs.ensures.front not_none in
    record {
      leads = yes;
      turned = subst (λ l. HasTurnedAll M l first new) is c.turn_all.ensures.turned;
      requests = subst (λ (b : Account _). AsksFront (term_in first) (account_of c.args.self.now) b) (sym c.turn_all.ensures.requests)
          (record { waiting_is = behind; asked_is = c.next_asks-inputs.ensures.asked not_none; lost_grows = c.next_asks-inputs.ensures.lost; done_is = c.next_asks-inputs.ensures.done });
    }
