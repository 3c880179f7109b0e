use Rattle.std.proofs.Common.{[]}
use Rattle.irc_line.proofs.Splitting.{items_none, unended_none, items_one, unended_one, items_cut, unended_cut}
use Rattle.irc_line.proofs.laws.the_items_are_what_line_feeds_end.Goals as goal

pub returns : goal.returns
returns c =
    record {
      none = λ rest h. (items_none [] rest h, unended_none [] rest h);
      one = λ ended rest h. items_one [] ended rest h;
      left = λ ended rest h. unended_one [] ended rest h;
      cut = λ fed more. (items_cut fed more, unended_cut fed more);
    }
