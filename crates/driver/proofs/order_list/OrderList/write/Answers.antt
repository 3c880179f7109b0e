use Rattle.std.proofs.Common.{rules, refl}
use Rattle.driver.specs.declared.order.Order.TheVariants.{Write}
use Rattle.driver.proofs.Merging.{merged_still, two_behind_none, two_behind_write}
use Rattle.driver.proofs.order_list.OrderList.write.Goals as goal
use Rattle.driver.proofs.order_list.OrderList.write.Goals.{in-Some+else-writing-client, in-None}

pub invariant_of-self : goal.invariant_of-self
invariant_of-self c =
    let old = Write c.in-Some.writing.client c.in-Some.writing.bytes in
    let new = Write c.in-Some.writing.client c.extend_from_slice.new.self in
    (search rules, refl, merged_still c.self.inside.list.items old new refl (search rules))

pub begin_writing-requires : goal.begin_writing-requires
begin_writing-requires c =
    let client = c.args.client in
    let list = c.self.inside.list.items in
    elim c.match-self.branch [
      | in-Some+else-writing-client w ↦
          let last = w.in-Some.writing in
          rw w.self-inside-is (two_behind_write list (Write last.client last.bytes) last.client client refl (search rules))
      | in-None w ↦ rw w.self-inside-is (rw w.in-None.is (two_behind_none list client (search rules)))
    ]
