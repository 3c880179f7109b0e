-- Where the time is in a text.
use Rattle.std.proofs.Common.{◌≡◌, ℕ, true, false, List, ◌++◌, drop, refl}
use Rattle.irc_line.specs.Names.{action_mark, begins_with}
use Rattle.buffer_lines.specs.Stamps.{stamp, second_of_day, stamped}

pub stamped_action : (offset moment : ℕ) (text : List ℕ) → begins_with text action_mark ≡ true
    → stamped offset moment text ≡ action_mark ++ stamp (second_of_day offset moment) ++ drop 8 text
unfolding stamped
stamped_action offset moment text e = rw e refl

pub stamped_plain : (offset moment : ℕ) (text : List ℕ) → begins_with text action_mark ≡ false
    → stamped offset moment text ≡ stamp (second_of_day offset moment) ++ text
unfolding stamped
stamped_plain offset moment text e = rw e refl
