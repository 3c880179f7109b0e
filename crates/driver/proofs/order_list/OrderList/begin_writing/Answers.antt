use Rattle.std.proofs.Common.{rules, ◌≡◌, true, refl}
use Rattle.driver.specs.declared.order.Order.TheVariants.{Write}
use Rattle.driver.specs.Deeds.{are_merged}
use Rattle.driver.proofs.Merging.{merged_more}
use Rattle.driver.proofs.order_list.OrderList.begin_writing.Goals as goal

pub invariant_of-self-2 : goal.invariant_of-self-2
invariant_of-self-2 c =
    let items : c.settle.new.list.items ≡ c.args.self.now = search rules in
    let merged : are_merged c.args.self.now ≡ true = search rules in
    (search rules, refl, merged_more c.args.self.now c.settle.new.list.items (Write c.args.client c.args.bytes) items merged c.requires)
