use Rattle.std.proofs.Common.{rules, ℕ, ◌≤◌, subst}
use Rattle.driver.specs.Rounds.{Spreads, round}
use Rattle.driver.proofs.Rounds.{spread_more, spread_none}
use Rattle.driver.proofs.retirements.Retirements.spread_all.Goals as goal

pub loop-id-preserved : goal.loop-id-preserved
loop-id-preserved c new more =
    let settings = c.args.settings.now in
    let now = c.args.now.now.ms in
    let leader = c.args.leader in
    let old = round c.loop-id.self.all c.loop-id.orders in
    let behind = round c.spread.new.self.all c.spread.new.orders in
    let spreads = subst (λ (node : ℕ). Spreads settings now leader node c.args.monitors.now old behind) c.new.ensures c.in_ok-spread.ensures in
    c.loop-id.invariant new (spread_more settings now leader c.loop-id.id c.args.monitors.now old behind new c.loop-id-test.true spreads more)

pub returns : goal.returns
returns c =
    let last = round c.loop-id.self.all c.loop-id.orders in
    let over : 8 ≤ c.loop-id.id = search rules in
    c.loop-id.invariant last (spread_none c.args.settings.now c.args.now.now.ms c.args.leader c.loop-id.id c.args.monitors.now last over)
