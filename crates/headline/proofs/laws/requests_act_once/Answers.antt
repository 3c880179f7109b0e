use Rattle.headline.proofs.Dones as proved
use Rattle.headline.proofs.laws.requests_act_once.Goals as goal

pub returns : goal.returns
returns c = record {
  effect = λ s. proved.requests_act_once s;
  others = λ s. proved.others_change_nothing s;
  done = λ s. proved.done_once s;
}
