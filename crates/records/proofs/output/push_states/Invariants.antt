use Rattle.std.proofs.Common.{◌≡◌, ◌++◌, drop}
use Rattle.records.specs.RecordText.{nodes_text}
use Rattle.records.proofs.output.push_states.Given as goal

abbrev pub invariant-loop-node : goal.invariant-loop-node
invariant-loop-node l = l.out.items ++ nodes_text (drop l.node-index l.nodes) ≡ l.initial.out.items ++ nodes_text l.nodes
