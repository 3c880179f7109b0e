use Rattle.store_life.proofs.Running.{none_handed_again}
use Rattle.store_life.proofs.nodes.no_node_hands_a_line_again.Goals as goal

pub returns : goal.returns
returns c = none_handed_again
