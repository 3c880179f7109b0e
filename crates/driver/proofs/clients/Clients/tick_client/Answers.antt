use Rattle.std.proofs.Common.{rules, ◌≡◌, subst, sym}
use Rattle.client_gate.specs.Calls.{Stands}
use Rattle.driver.specs.declared.client.Client.{Client}
use Rattle.driver.specs.Crowds.{Ticks}
use Rattle.driver.proofs.clients.Clients.tick_client.Goals as goal

pub returns-clause-served : goal.returns-clause-served
returns-clause-served c s calls d is stands =
    let now = c.args.now.now in
    let reads = c.is_read-is_read.result in
    let same : c.in-Some.client.now ≡ d = search rules in
    let here = subst (λ (x : Client). Stands s calls x.gate) (sym same) stands in
    record {
      client = c.tick.new.self;
      happened = record {
        reads = reads;
        is_read = search rules;
        ticks =
            subst
            (λ (x : Client). Ticks reads c.args.timeout_ms now.ms now.at s calls x c.args.orders.now c.tick.new.self c.tick.new.orders)
            same
            (record {
              overdue = λ late. c.in_ok-tick.ensures.overdue s calls here late;
              slow = λ early late. c.in_ok-tick.ensures.slow s calls here early late;
              kept = λ early late. c.in_ok-tick.ensures.kept s calls here early late;
            });
      };
      is_kept = search rules;
    }
