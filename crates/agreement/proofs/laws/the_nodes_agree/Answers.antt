use Rattle.agreement.proofs.Holds as laws
use Rattle.agreement.proofs.Brought.{all_brought}
use Rattle.agreement.proofs.laws.the_nodes_agree.Goals as goal

pub returns : goal.returns
returns g c =
    record {
      one_list = laws.one_list;
      in_agreed = laws.in_agreed;
      agreed_grows = laws.agreed_grows;
      all_brought = all_brought;
      one_leader = laws.one_leader;
      one_run = laws.one_run;
      one_vote = laws.one_vote;
      logs_match = laws.logs_match;
      leaders_hold = laws.leaders_hold;
    }
