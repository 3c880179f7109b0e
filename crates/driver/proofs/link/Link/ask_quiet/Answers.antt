use Rattle.std.proofs.Common.{rules}
use Rattle.driver.proofs.Pings.{asked_by}
use Rattle.driver.proofs.link.Link.ask_quiet.Goals as goal

pub returns-clause-asks : goal.returns-clause-asks
returns-clause-asks c =
    asked_by c.args.now.now.ms c.args.self.now.stage c.in-Open.session c.from.result c.in_ok-ping.ping c.args.orders.now c.send.new.self
    (search rules) (search rules) (search rules) (search rules) (search rules)
