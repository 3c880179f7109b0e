use Rattle.bouncer_tower.proofs.Without.{plain_idle, session_idle, outgoing_idle, claimed_idle, answers_idle}
use Rattle.bouncer_tower.proofs.laws.a_blank_or_a_mark_changes_nothing.Goals as goal

pub returns : goal.returns
returns c = record {
  plain = plain_idle;
  session = session_idle;
  outgoing = λ s later earlier place x e. outgoing_idle later earlier place x e s;
  claimed = λ s later earlier place x e. claimed_idle later earlier place x e s;
  answers = λ s at y later earlier place x e. answers_idle later earlier place x e s at y;
}
