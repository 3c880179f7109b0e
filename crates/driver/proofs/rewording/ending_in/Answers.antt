use Rattle.std.proofs.Common.{rules, sym}
use Rattle.driver.proofs.Endings.{ends_nothing}
use Rattle.driver.proofs.rewording.ending_in.Goals as goal

pub returns-then-not-may_end : goal.returns-then-not-may_end
returns-then-not-may_end c = sym (ends_nothing c.args.nick.now c.args.shown.now (search rules))
