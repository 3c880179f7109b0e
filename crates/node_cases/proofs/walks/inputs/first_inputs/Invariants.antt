use Rattle.std.proofs.Common.{◌≡◌, ◌≤◌, ◌++◌, drop, length, map}
use Rattle.node_cells.specs.Inputs.{OnlyAppend}
use Rattle.node_cases.specs.Events.{done_by}
use Rattle.node_cases.proofs.walks.inputs.first_inputs.Given as goal

-- each event so far is an input, by which the leader only appends
abbrev pub invariant-loop-event : goal.invariant-loop-event
invariant-loop-event g l =
    (map (done_by l.node) l.inputs.items ++ drop l.event-index l.event-items ≡ l.event-items) × OnlyAppend l.inputs.items
