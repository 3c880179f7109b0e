use Rattle.std.proofs.Common.{List, rules, subst, sym}
use Rattle.std.specs.List.Sorted.{IsPermutation}
use Rattle.std.proofs.lemmas.List.Sorted.{IsNonDecreasingBy-from_sort_by_key, IsPermutation-map}
use Rattle.toml.specs.View.{table_view}
use Rattle.bouncer_config.specs.Faults.{Told, place_of, told, told_of}
use Rattle.bouncer_config.proofs.Missed.{whole}
use Rattle.bouncer_config.proofs.Told.{gathered}
use Rattle.bouncer_config.proofs.gathering.all_faults.Goals as goal

pub returns : goal.returns
returns c =
    let table = table_view c.args.table.now in
    let sorted = c.sort_by_key.new.self.items in
    let same = gathered table c.new-faults.result.items c.gather_names.new.faults.items c.gather_keys.new.faults.items c.as_slice.result.now c.new-faults.ensures.items c.in_ok-gather_names.ensures
    c.as_slice.ensures c.in_ok-gather_keys.ensures in
    record {
      all = subst (λ (all : List Told). IsPermutation all (told sorted)) (sym same) (IsPermutation-map (λ f. told_of f.problem) c.gather_keys.new.faults.items sorted c.sort_by_key.ensures.permutation);
      whole = whole table;
      in_order = IsNonDecreasingBy-from_sort_by_key place_of _ c.in_ok-sort_by_key.ensures.sorted (λ a r q k. search rules);
    }
