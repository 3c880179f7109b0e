use Rattle.std.proofs.Common.{rules}
use Rattle.std.proofs.lemmas.Result.{on_ok_weaker}
use Rattle.driver.proofs.Nicks.{one_named}
use Rattle.driver.proofs.client.Client.tell_nick.Goals as goal

pub returns : goal.returns
returns c =
    on_ok_weaker c.write.result (λ wrote.
    one_named c.args.self.now c.args.nick.now c.args.orders.now c.write.new.self c.in_ok-line.line (search rules) (search rules) (search rules))
    c.write.ensures
