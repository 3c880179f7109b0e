use Rattle.std.proofs.Common.{rules}
use Rattle.driver.proofs.driver.Driver.pass.Goals as goal

pub returns : goal.returns
returns c =
    record {
      learnt = c.learn_nick.new.self;
      learns = c.in_ok-learn_nick.ensures;
      passes = search rules;
      rest = search rules;
    }
