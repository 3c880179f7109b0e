use Rattle.std.proofs.Common.{rules, ◌≡◌, ◌++◌, ◌∷◌, [], true}
use Rattle.driver.specs.Deeds.{are_merged}
use Rattle.driver.proofs.Merging.{merged_apart}
use Rattle.driver.proofs.order_list.OrderList.push.Goals as goal

pub invariant_of-self-2 : goal.invariant_of-self-2
invariant_of-self-2 c =
    let items : c.push_reserved.new.self.items ≡ c.args.self.now ++ c.args.order ∷ [] = search rules in
    let merged : are_merged c.args.self.now ≡ true = search rules in
    let apart = merged_apart c.args.self.now c.push_reserved.new.self.items c.args.order c.settle.new.last items c.settle.ensures.none merged c.requires in
    (search rules, apart.0, apart.1)
