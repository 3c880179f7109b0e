use Rattle.store_life.proofs.Running.{nodes_end_as_viewed, views_hand_of_their_period, views_hand_others}
use Rattle.store_life.proofs.nodes.views_are_of_their_period.Goals as goal

pub returns-clause-lines : goal.returns-clause-lines
returns-clause-lines c = views_hand_of_their_period

pub returns-clause-others : goal.returns-clause-others
returns-clause-others c = views_hand_others

pub returns-clause-ends : goal.returns-clause-ends
returns-clause-ends c = nodes_end_as_viewed
