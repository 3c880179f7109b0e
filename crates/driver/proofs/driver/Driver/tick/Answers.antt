use Rattle.std.proofs.Common.{rules, refl, subst}
use Rattle.driver.specs.declared.driver.Driver.{Driver}
use Rattle.driver.specs.Driving.{AsksServer}
use Rattle.driver.proofs.driver.Driver.tick.Goals as goal

pub returns : goal.returns
returns c =
    let now = c.args.now.now.ms in
    let pinged = c.ask_quiet.new.self in
    let left = c.leave_silent.new.self in
    record {
      pinged = pinged;
      pings = subst (λ (woken : Driver). AsksServer now woken pinged) c.wake.ensures c.in_ok-ask_quiet.ensures;
      left = left;
      leaves = c.in_ok-leave_silent.ensures;
      served = record left { clients = c.tick.new.self; orders = c.tick.new.orders };
      clients = search rules;
      is_served = refl;
      asked = c.tick_nodes.new.self;
      nodes = c.in_ok-tick_nodes.ensures;
      retired = c.in_ok-tick-2.ensures;
      rest = refl;
    }
