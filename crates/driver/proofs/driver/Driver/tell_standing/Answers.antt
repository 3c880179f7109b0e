use Rattle.std.proofs.Common.{◌≡◌, rules, subst}
use Rattle.std.proofs.lemmas.Result.{on_ok_weaker}
use Rattle.driver.specs.declared.driver.Driver.{Driver}
use Rattle.driver.specs.Answering.{AllAreListed}
use Rattle.driver.specs.Nicks.{nick_in}
use Rattle.driver.proofs.driver.Driver.tell_standing.Goals as goal

pub returns-clause-told : goal.returns-clause-told
returns-clause-told c =
    on_ok_weaker c.list_clients.result (λ listed.
    record {
      leader = c.leader_of-leader.result;
      is_leader = search rules;
      stood = c.tell_texts.new.self.orders;
      stands = c.in_ok-tell_texts.ensures.told;
      lists =
          subst
          (λ (driver : Driver). AllAreListed c.args.number driver.clients (nick_in driver) c.tell_texts.new.self.orders c.list_clients.new.self.orders)
          c.tell_texts.ensures.rest listed;
    })
    c.list_clients.ensures.told
