use Rattle.node_steps.proofs.Hearing.{same_peers}
use Rattle.node_steps.proofs.messages.raised.Goals as goal

pub returns-clause-step : goal.returns-clause-step
returns-clause-step g c = same_peers c.args.state.now.standing c.raised-raised.result c.args.state.now.log c.args.term c.raised-raised.ensures
