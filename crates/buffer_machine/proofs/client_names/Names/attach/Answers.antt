use Rattle.std.proofs.Common.{◌<◌, ◌≤◌, length, arith}
use Rattle.buffer_machine.proofs.Readers.{below_more, below_push, flags_one_more}
use Rattle.buffer_machine.proofs.client_names.Names.attach.Goals as goal

pub invariant_of-self : goal.invariant_of-self
invariant_of-self c =
    (c.add_name.ensures.few, below_more _ _ c.self.inside.holders.items c.add_name.ensures.more c.self.invariant.1, c.self.invariant.2)

pub invariant_of-self-in_err-push : goal.invariant_of-self-in_err-push
invariant_of-self-in_err-push c =
    (c.add_name.ensures.few, rw c.in_err-push.ensures.items (below_more _ _ c.self.inside.holders.items c.add_name.ensures.more c.self.invariant.1), rw c.in_err-push.ensures.items c.self.invariant.2)

pub invariant_of-self-2 : goal.invariant_of-self-2
invariant_of-self-2 c =
    let low : c.in_ok-name.name < length c.add_name.new.ids.items = c.in_ok-name.ensures.within in
    let few : length c.add_name.new.ids.items ≤ 64 = c.add_name.ensures.few in (
      few,
      rw c.in_ok-push.ensures.items (below_push (length c.add_name.new.ids.items) c.in_ok-name.name c.args.origin c.self.inside.holders.items low (below_more _ _ c.self.inside.holders.items c.add_name.ensures.more c.self.invariant.1)),
      rw (c.in_ok-push.ensures.items, c.self.invariant.2) (flags_one_more 64 c.in_ok-name.name c.args.origin c.self.inside.holders.items (omega (arith, low, few))),
    )
