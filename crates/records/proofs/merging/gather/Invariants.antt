use Rattle.std.proofs.Common.{◌≡◌, ◌++◌}
use Rattle.records.specs.Merging.{nodes_of, turns_of}
use Rattle.records.proofs.merging.gather.Given as goal

abbrev pub invariant-loop-record : goal.invariant-loop-record
invariant-loop-record g l =
    let rest = l.record-iterator.rest.items in
    record {
      turns : l.turns.items ++ turns_of rest ≡ turns_of l.fn.records.items;
      nodes : l.nodes.items ++ nodes_of rest ≡ nodes_of l.fn.records.items;
    }
