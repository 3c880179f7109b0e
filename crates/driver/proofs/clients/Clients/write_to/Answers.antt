use Rattle.std.proofs.Common.{rules}
use Rattle.std.proofs.lemmas.Result.{on_ok_weaker}
use Rattle.driver.specs.Rosters.{client_at}
use Rattle.driver.proofs.Nicks.{one_written}
use Rattle.driver.proofs.clients.Clients.write_to.Goals as goal

pub returns : goal.returns
returns c =
    on_ok_weaker c.write.result (λ wrote.
    one_written (client_at c.args.self.now c.args.number) c.in-Some.client.now c.args.text.now c.args.orders.now c.write.new.self c.in_ok-line.line (search rules) (search rules) c.in_ok-line.ensures.items (search rules))
    c.write.ensures
