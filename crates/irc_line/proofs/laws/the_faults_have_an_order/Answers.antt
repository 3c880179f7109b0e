use Rattle.irc_line.proofs.Judging.{judged_long, judged_bad, judged_none, judged_many, judged_spelled_long, judged_ok}
use Rattle.irc_line.proofs.laws.the_faults_have_an_order.Goals as goal

pub returns : goal.returns
returns c =
    record {
      too_long = judged_long;
      bad_byte = judged_bad;
      no_command = λ s c n. judged_none s c.0 c.1 n;
      too_many_parameters = λ s p h. judged_many s p h.0.0 h.0.1 h.1;
      spelled_too_long = λ s p h. judged_spelled_long s p h.0.0 h.0.1 h.1;
      line = λ s p h. judged_ok s p h.0.0 h.0.1 h.1;
    }
