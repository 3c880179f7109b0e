use Rattle.std.proofs.Common.{rules}
use Rattle.std.proofs.lemmas.Result.{on_ok_weaker}
use Rattle.driver.specs.Rosters.{client_at}
use Rattle.driver.proofs.Listing.{one_listed}
use Rattle.driver.proofs.clients.Clients.list_one.Goals as goal

pub returns : goal.returns
returns c =
    on_ok_weaker c.tell.result (λ wrote.
    one_listed (client_at c.args.self.now c.args.listed) (client_at c.args.self.now c.args.number) c.in-Some.client.now c.args.nick.now c.in_ok-line.line.items
    c.args.orders.now c.tell.new.orders (search rules) (search rules) (search rules) (search rules))
    c.tell.ensures.told
