use Rattle.std.proofs.Common.{rules}
use Rattle.driver.specs.Crowds.{told}
use Rattle.driver.proofs.driver.Driver.begin.Goals as goal

pub returns : goal.returns
returns c =
    record {
      left = told c.leave_runs_below.new.self c.leave_runs_below.new.orders;
      leaves = search rules;
      clients = search rules;
      orders = search rules;
      retired = search rules;
      rest = search rules;
    }
