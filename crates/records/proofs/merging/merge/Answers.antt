use Rattle.std.proofs.Common.{List, rules, subst}
use Rattle.std.proofs.lemmas.List.Sorted.{IsNonDecreasingBy-from_sort_by_key, answers_always}
use Rattle.records.specs.declared.record.Turn.{Turn}
use Rattle.records.specs.Merging.{IsRanked, node_of, ticket_of}
use Rattle.records.proofs.merging.merge.Goals as goal

pub returns : goal.returns
returns g c = record {
  by_node = c.sort_by_key.new.self.items;
  ranked = record {
    same = c.sort_by_key.ensures.permutation;
    rises = IsNonDecreasingBy-from_sort_by_key node_of _ c.in_ok-sort_by_key.ensures.sorted (λ a r q k. search rules);
    stable = c.sort_by_key.ensures.stable node_of (answers_always _ _ _ (λ f a r g h. search rules));
  };
  turns = subst (λ (all : List (Turn g.row.E.Denot g.row.O.Denot)). IsRanked ticket_of all c.sort_by_key-2.new.self.items) c.in_ok-merged.ensures.turns (record {
    same = c.sort_by_key-2.ensures.permutation;
    rises = IsNonDecreasingBy-from_sort_by_key ticket_of _ c.in_ok-sort_by_key-2.ensures.sorted (λ a r q k. search rules);
    stable = c.sort_by_key-2.ensures.stable ticket_of (answers_always _ _ _ (λ f a r g h. search rules));
  });
  nodes = c.in_ok-merged.ensures.nodes;
}
