use Rattle.std.proofs.Common.{rules, ℕ, ◌≤◌, subst}
use Rattle.driver.specs.Driving.{TicksNode}
use Rattle.driver.proofs.Driving.{tick_more, tick_none}
use Rattle.driver.proofs.driver.Driver.tick_nodes.Goals as goal

pub loop-id-preserved : goal.loop-id-preserved
loop-id-preserved c new more =
    let now = c.args.now.now.ms in
    let old = c.loop-id.self in
    let behind = c.tick_node.new.self in
    let ticks = subst (λ (node : ℕ). TicksNode now node old behind) c.new.ensures c.in_ok-tick_node.ensures in
    c.loop-id.invariant new (tick_more c.loop-id.id now old behind new c.loop-id-test.true ticks more)

pub returns : goal.returns
returns c =
    let over : 8 ≤ c.loop-id.id = search rules in
    c.loop-id.invariant c.loop-id.self (tick_none c.loop-id.id c.args.now.now.ms c.loop-id.self over)
