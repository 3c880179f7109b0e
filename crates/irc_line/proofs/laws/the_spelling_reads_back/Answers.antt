use Rattle.irc_line.proofs.Judging.{judged_line, judged_is}
use Rattle.irc_line.proofs.Canonical.{spelling_judged, one_line}
use Rattle.irc_line.proofs.laws.the_spelling_reads_back.Goals as goal

pub returns : goal.returns
returns c =
    record {
      read_back = spelling_judged;
      is_a_line = judged_line;
      fits = λ content p h. (judged_is content p h).spelled_short;
      one_line = one_line;
    }
