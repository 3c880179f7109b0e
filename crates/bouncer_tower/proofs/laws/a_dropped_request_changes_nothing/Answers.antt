use Rattle.bouncer_tower.proofs.Without.{plain_same, session_same, outgoing_same, claimed_same}
use Rattle.bouncer_tower.proofs.laws.a_dropped_request_changes_nothing.Goals as goal

pub returns : goal.returns
returns c = record {
  plain = plain_same;
  session = session_same;
  outgoing = λ s later earlier place o n at a e. outgoing_same later earlier place o n at a e s;
  claimed = λ s later earlier place o n at a e. claimed_same later earlier place o n at a e s;
}
