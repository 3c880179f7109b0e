use Rattle.std.proofs.Common.{None, rules, ◌≡◌, ◌&&◌, not, Bool, true, false, refl, sym, ap, ◌∙◌, subst}
use Rattle.std.specs.Prelude.{nat_le}
use Rattle.raft_node.specs.Hosts.{hosted}
use Rattle.raft_node.specs.Machine.{Machine}
use Rattle.raft_node.specs.declared.input.Input.TheVariants.{Timeout}
use Rattle.node_threads.specs.Reports.{leads_in}
use Rattle.node_threads.specs.Work.{Does, HasHadTurn, times_out}
use Rattle.node_threads.proofs.Going.{home_after_taking}
use Rattle.node_threads.specs.Waiting.{account_of}
use Rattle.node_threads.proofs.Waiting.{back_again}
use Rattle.node_threads.proofs.worker_loop.WorkerLoop.time_out.Given as given
use Rattle.node_threads.proofs.worker_loop.WorkerLoop.time_out.Goals as goal

abbrev machine : (g : given.Over) → g.row.M-Setup.Denot → Machine
machine g s =
    hosted g.M.Hosted.blank g.M.Hosted.opened g.M.Hosted.shut g.M.Hosted.heard g.M.Hosted.claim g.M.Hosted.source (g.M.Machine.effects s)
    (g.M.Hosted.next_claim s) (g.M.Hosted.playback s) g.M.Hosted.class

pub returns-then-is_due-clause-requests : goal.returns-then-is_due-clause-requests
returns-then-is_due-clause-requests g c = back_again (account_of c.args.self.now) (account_of c.take_all.new.self) (account_of c.turn.new.self) c.take_all.ensures.requests c.turn.ensures.requests

pub returns-else-is_due-clause-turned : goal.returns-else-is_due-clause-turned
returns-else-is_due-clause-turned g c =
    let first = c.args.cell.now.parts in
    let between = c.take_all.new.cell.parts in
    let undue : c.is_due.result ≡ false = search rules in
    let is : (nat_le c.take_all.new.self.contacts c.args.contacts && not (leads_in between)) ≡ false = sym c.is_due.ensures ∙ undue in
    record {
      between = between;
      taken = c.take_all.ensures.taken;
      turned = subst (λ (due : Bool). Does (machine g first.ether.setup) g.U.Upstream.tally (times_out due) between between) (sym is) refl;
    }

pub returns-then-is_due-clause-turned : goal.returns-then-is_due-clause-turned
returns-then-is_due-clause-turned g c =
    let first = c.args.cell.now.parts in
    let between = c.take_all.new.cell.parts in
    let new = c.turn.new.cell.parts in
    let M = machine g first.ether.setup in
    let home = home_after_taking M g.U.Upstream.tally None first between c.take_all.ensures.taken in
    let turned = subst (λ (s : g.row.M-Setup.Denot). HasHadTurn (machine g s) g.U.Upstream.tally between Timeout new) (ap (λ e. e.setup) home.ether) c.turn.ensures.turn in
    let due : c.is_due.result ≡ true = search rules in
    let is : (nat_le c.turn.new.self.contacts c.args.contacts && not (leads_in between)) ≡ true =
    (λ i. nat_le (c.turn.ensures.contacts i) c.args.contacts && not (leads_in between)) ∙ sym c.is_due.ensures ∙ due in
    record {
      between = between;
      taken = c.take_all.ensures.taken;
      turned = subst (λ (due : Bool). Does M g.U.Upstream.tally (times_out due) between new) (sym is) (new, turned, refl);
    }
