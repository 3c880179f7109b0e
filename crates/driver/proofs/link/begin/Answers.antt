use Rattle.std.proofs.Common.{rules, refl}
use Rattle.driver.proofs.link.begin.Goals as goal

pub returns : goal.returns
returns c =
    record {
      first = c.in_ok-uplink.first;
      is_first = search rules;
      orders = c.in_ok-send.ensures;
      node_is = refl;
      since = search rules;
      heard = search rules;
      is_unasked = refl;
      is_unopened = refl;
      uplink_is = search rules;
    }
