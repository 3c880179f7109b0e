use Rattle.std.proofs.Common.{rules, ◌≡◌, ◌∷◌, [], true, refl, sym, subst, Bool}
use Rattle.driver.specs.declared.order.Order.TheVariants.{Write}
use Rattle.driver.specs.Silence.{IsPing, is_silent}
use Rattle.driver.proofs.client.Client.ask_for_word.Goals as goal

pub returns : goal.returns
returns c =
    let silent : is_silent c.args.self.now c.args.now.now.ms ≡ true = search rules in
    let ping = Write c.args.self.now.origin.2 c.in_ok-ping.ping ∷ [] in
    record {
      ping = ping;
      is_ping = subst (λ (b : Bool). IsPing b c.args.self.now.origin.2 ping) (sym silent) (c.in_ok-ping.ping, c.in_ok-ping.ensures.items, refl);
      orders = search rules;
      is_known = search rules;
    }
