use Rattle.std.specs.Prelude.{Ok, Err}
use Rattle.irc_line.proofs.Items.{with_return, no_return, empty_none, ended_one_item, content_long, content_judged, item_not_memory}
use Rattle.irc_line.proofs.laws.an_item_is_what_its_content_is.Goals as goal

pub returns : goal.returns
returns c =
    record {
      with_return = with_return;
      without_return = no_return;
      empty = empty_none;
      some = ended_one_item;
      too_long = content_long;
      got = λ content p. content_judged content (Ok p);
      refused = λ content e. content_judged content (Err e);
      not_memory = item_not_memory;
    }
