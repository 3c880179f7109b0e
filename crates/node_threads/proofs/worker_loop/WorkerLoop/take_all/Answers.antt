use Rattle.std.proofs.Common.{◌≡◌, ◌<◌, ◌+◌, ℕ, ap, ◌∙◌, refl, subst, arith}
use Rattle.node_threads.specs.Work.{Does, takes_but, takes_unless}
use Rattle.node_threads.proofs.Going.{home_after, takes_next}
use Rattle.node_threads.specs.Waiting.{account_of}
use Rattle.node_threads.proofs.Waiting.{back_again, none_back}
use Rattle.node_threads.proofs.worker_loop.WorkerLoop.take_all.Goals as goal
use Rattle.node_threads.proofs.worker_loop.WorkerLoop.take_all.Invariants.{machine}

pub loop-from-init : goal.loop-from-init
loop-from-init g c = record { taken = refl; requests = none_back _ _ refl }

pub loop-from-preserved : goal.loop-from-preserved
loop-from-preserved g c =
    let first = c.args.cell.now.parts in
    let old = c.loop-from.cell.parts in
    let new = c.take_unless.new.cell.parts in
    let M = machine g first.ether.setup in
    let from = c.loop-from.from in
    let home = home_after M g.U.Upstream.tally (takes_but c.args.left from) first old c.loop-from.invariant.taken in
    let size : old.ether.size ≡ first.ether.size = ap (λ e. e.size) home.ether in
    let many : c.value-size.result ≡ first.ether.size = c.value-size.ensures.value ∙ c.size.ensures in
    let few = c.loop-from-test.true in
    let within : from < old.ether.size = omega (arith, size, many, few) in
    let more = subst (λ (s : g.row.M-Setup.Denot). Does (machine g s) g.U.Upstream.tally (takes_unless c.is_left.result from) old new) (ap (λ e. e.setup) home.ether) (c.take_unless.ensures.taken within) in
    record {
      taken = takes_next M g.U.Upstream.tally c.args.left from (from + 1) c.is_left.result first old new (omega arith) c.is_left.ensures c.loop-from.invariant.taken more;
      requests = back_again (account_of c.args.self.now) (account_of c.loop-from.self) (account_of c.take_unless.new.self) c.loop-from.invariant.requests c.take_unless.ensures.requests;
    }

pub returns-clause-taken : goal.returns-clause-taken
returns-clause-taken g c =
    let first = c.args.cell.now.parts in
    let many : c.value-size.result ≡ first.ether.size = c.value-size.ensures.value ∙ c.size.ensures in
    let least = c.loop-from-test.false in
    let most = c.loop-from.auto.from-end in
    let end : c.loop-from.from ≡ first.ether.size = omega (arith, many, least, most) in
    subst (λ (n : ℕ). Does (machine g first.ether.setup) g.U.Upstream.tally (takes_but c.args.left n) first c.loop-from.cell.parts) end c.loop-from.invariant.taken
