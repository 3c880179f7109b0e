use Rattle.node_cases.proofs.Taken.{all_done}
use Rattle.node_cases.proofs.walks.inputs.first_inputs.Goals as goal

pub returns-clause-those : goal.returns-clause-those
returns-clause-those g c =
    all_done c.args.count _ c.args.events.now _ c.min.result c.min-2.result c.loop-event.event-index c.loop-event.invariant.0 c.loop-event-test.false c.min.ensures c.min-2.ensures
