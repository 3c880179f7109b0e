use Rattle.std.proofs.Common.{rules, ◌≡◌, ℕ, Bool, true, false, ap, sym, ◌∙◌, subst}
use Rattle.raft_node.specs.Hosts.{hosted}
use Rattle.raft_node.specs.Machine.{Machine}
use Rattle.raft_node.specs.declared.input.Input.TheVariants.{Ask}
use Rattle.node_threads.specs.Asking.{MayAsk}
use Rattle.node_threads.specs.Work.{HasHadTurn}
use Rattle.node_threads.specs.Waiting.{AsksFirst, account_of}
use Rattle.node_threads.proofs.Seen.{asked_none, home_may, may_ask, may_not, none_waits, term_seen}
use Rattle.node_threads.proofs.worker_loop.WorkerLoop.ask_one.Given as given
use Rattle.node_threads.proofs.worker_loop.WorkerLoop.ask_one.Goals as goal

abbrev machine : (g : given.Over) → g.row.M-Setup.Denot → Machine
machine g s =
    hosted g.M.Hosted.blank g.M.Hosted.opened g.M.Hosted.shut g.M.Hosted.heard g.M.Hosted.claim g.M.Hosted.source (g.M.Machine.effects s)
    (g.M.Hosted.next_claim s) (g.M.Hosted.playback s) g.M.Hosted.class

pub returns-then-not-has_waiting : goal.returns-then-not-has_waiting
returns-then-not-has_waiting g c =
    let not : c.has_waiting.result ≡ false = search rules in
    asked_none (machine g c.args.cell.now.parts.ether.setup) g.U.Upstream.tally (account_of c.args.self.now) c.args.cell.now.parts c.args.cell.now.parts
    (none_waits (machine g c.args.cell.now.parts.ether.setup) g.U.Upstream.tally c.args.self.now.requests.waiting.items c.args.cell.now.parts (c.has_waiting.ensures.none not))

pub returns-then-not-may_ask : goal.returns-then-not-may_ask
returns-then-not-may_ask g c =
    let first = c.args.cell.now.parts in
    let seen = c.may_ask.new.cell.parts in
    let waits : c.has_waiting.result ≡ true = search rules in
    let not : c.may_ask.result ≡ false = search rules in
    asked_none (machine g first.ether.setup) g.U.Upstream.tally (account_of c.args.self.now) first seen
    (may_not (machine g first.ether.setup) g.U.Upstream.tally c.args.self.now.requests.waiting.items first seen
    (λ none. let clash : true ≡ false = sym waits ∙ c.has_waiting.ensures.some none in cc clash)
    (subst (λ (may : Bool). MayAsk first may seen) not c.may_ask.ensures))

pub returns-in_default : goal.returns-in_default
returns-in_default g c =
    let waits : c.has_waiting.result ≡ true = search rules in
    let none = c.in_default.ensures.0 in
    absurd (let clash : true ≡ false = sym waits ∙ c.has_waiting.ensures.some none in cc clash)

pub returns : goal.returns
returns g c =
    let first = c.args.cell.now.parts in
    let seen = c.may_ask.new.cell.parts in
    let new = c.turn.new.cell.parts in
    let M = machine g first.ether.setup in
    let tally = g.U.Upstream.tally in
    let yes : c.may_ask.result ≡ true = search rules in
    let looked = subst (λ (may : Bool). MayAsk first may seen) yes c.may_ask.ensures in
    let turned = subst (λ (s : g.row.M-Setup.Denot). HasHadTurn (machine g s) tally seen (Ask c.in-Some.body) new) (ap (λ e. e.setup) (home_may first true seen looked).ether) c.turn.ensures.turn in
    record {
      cell = may_ask M tally c.args.self.now.requests.waiting.items _ c.in-Some.ensures.0 c.in-Some.body first seen new c.in-Some.ensures.1 looked turned;
      requests = subst (λ (t : ℕ). AsksFirst t true (account_of c.args.self.now) (account_of c.turn.new.self)) (ap (λ s. s.standing.term) c.state.ensures.state ∙ term_seen first true seen looked)
          (c.in-Some.body, _, c.in-Some.ensures, c.turn.ensures.requests);
    }
