use Rattle.std.proofs.Common.{◌≡◌, ◌++◌, [], length}
use Rattle.irc_line.specs.Splitting.{items_from, unended_from}
use Rattle.irc_line.proofs.splitter.push_items.Given as goal

abbrev pub invariant-loop-ended : goal.invariant-loop-ended
invariant-loop-ended l =
    record {
      done : l.items.items ++ items_from [] l.rest ≡ l.fn.items.items ++ items_from [] l.bytes;
      left : unended_from [] l.rest ≡ unended_from [] l.bytes;
    }

abbrev pub decreases-loop-ended : goal.decreases-loop-ended
decreases-loop-ended l = length l.rest
