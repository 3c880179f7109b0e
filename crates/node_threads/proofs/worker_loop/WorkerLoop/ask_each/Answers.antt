use Rattle.std.proofs.Common.{◌≡◌, ◌+◌, ◌-◌, ℕ, suc, refl, ap, subst, arith}
use Rattle.node_threads.specs.Waiting.{account_of}
use Rattle.node_threads.specs.Work.{HasAskedOne, ask_limit}
use Rattle.node_threads.proofs.Home.{same_home, same_home_still}
use Rattle.node_threads.proofs.Seen.{asks_last, asks_next, asks_none, home_asked_one}
use Rattle.node_threads.proofs.worker_loop.WorkerLoop.ask_each.Goals as goal
use Rattle.node_threads.proofs.worker_loop.WorkerLoop.ask_each.Invariants.{machine}

pub loop-init : goal.loop-init
loop-init g c = (same_home c.args.cell.now.parts _ refl, λ n many over b e h. (n, omega (arith, many), h))

pub loop-preserved : goal.loop-preserved
loop-preserved g c =
    let first = c.args.cell.now.parts in
    let old = c.loop.cell.parts in
    let new = c.ask_one.new.cell.parts in
    let before = account_of c.loop.self in
    let after = account_of c.ask_one.new.self in
    let M = machine g first.ether.setup in
    let tally = g.U.Upstream.tally in
    let one = subst (λ (s : g.row.M-Setup.Denot). HasAskedOne (machine g s) tally before c.ask_one.result old after new) (ap (λ e. e.setup) c.loop.invariant.0.ether) c.ask_one.ensures in (
      same_home_still first old new c.loop.invariant.0 (home_asked_one M tally before c.ask_one.result old after new one),
      λ n many over b e h. c.loop.invariant.1 (suc n) (omega (arith, many)) over b e (asks_next M tally n before c.ask_one.result old after new over b e c.if-not-ask_one.false one h),
    )

pub returns : goal.returns
returns g c =
    let now = account_of c.loop.self in
    let least = c.loop-test.false in
    let most = c.loop.auto.counter-end in
    c.loop.invariant.1 0 (omega (arith, least, most)) _ now c.loop.cell.parts (asks_none (machine g c.args.cell.now.parts.ether.setup) g.U.Upstream.tally now c.loop.cell.parts)

pub returns-then-not-ask_one : goal.returns-then-not-ask_one
returns-then-not-ask_one g c =
    let first = c.args.cell.now.parts in
    let old = c.loop.cell.parts in
    let new = c.ask_one.new.cell.parts in
    let before = account_of c.loop.self in
    let after = account_of c.ask_one.new.self in
    let M = machine g first.ether.setup in
    let tally = g.U.Upstream.tally in
    let room = c.loop-test.true in
    let one = subst (λ (s : g.row.M-Setup.Denot). HasAskedOne (machine g s) tally before c.ask_one.result old after new) (ap (λ e. e.setup) c.loop.invariant.0.ether) c.ask_one.ensures in
    let left = ask_limit - (c.loop.counter + 1) in
    c.loop.invariant.1 (suc left) (omega (arith, room)) _ after new (asks_last M tally left before c.ask_one.result old after new c.if-not-ask_one.true one)
