use Rattle.std.proofs.Common.{rules, refl}
use Rattle.driver.proofs.link.receive_in.Goals as goal

pub returns : goal.returns
returns c =
    record {
      given = c.in_ok-inputs.inputs.items;
      reply = c.in_ok-inputs.reply;
      goes_on = search rules;
      orders = search rules;
      are_notes = search rules;
      node_is = refl;
      since = refl;
      is_opened = refl;
      heard = search rules;
      is_unasked = refl;
    }
