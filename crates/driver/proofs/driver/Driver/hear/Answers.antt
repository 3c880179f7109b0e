use Rattle.std.proofs.Common.{rules}
use Rattle.driver.proofs.driver.Driver.hear.Goals as goal

pub returns : goal.returns
returns c =
    record {
      passed = c.pass_all.new.self;
      passes = search rules;
      stood = c.hear_node.new.self;
      stands = search rules;
      worded = c.hear_word.new.self;
      words = search rules;
      is_worded = search rules;
      begun = c.begin_if.new.self;
      begins = search rules;
      ticks = c.in_ok-tick_node.ensures;
    }
