use Rattle.std.proofs.Common.{◌≡◌, ◌++◌}
use Rattle.std.specs.Vec.Iter.{into_iter_items}
use Rattle.uplink.specs.Sessions.{after_items, inputs_from, replies_from}
use Rattle.uplink.proofs.passing.pass_items.Given as goal

-- what was given and what is left to give are all that is given
abbrev pub invariant-loop-item : goal.invariant-loop-item
invariant-loop-item l =
    let left = into_iter_items l.item-iterator in
    record {
      session : after_items l.session left ≡ after_items l.fn.session l.fn.items.items;
      inputs : l.passed.inputs.items ++ inputs_from l.session left ≡ inputs_from l.fn.session l.fn.items.items;
      reply : l.passed.reply.items ++ replies_from l.session left ≡ replies_from l.fn.session l.fn.items.items;
    }
