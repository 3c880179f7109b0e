use Rattle.std.proofs.Common.{rules, ◌≡◌, length, refl}
use Rattle.std.specs.Vec.{with_items}
use Rattle.std.proofs.lemmas.List.{with_items_is}
use Rattle.buffer_targets.specs.Targets.{over, cleared}
use Rattle.buffer_targets.proofs.ChannelEdits.{rising_map}
use Rattle.buffer_targets.proofs.channels.Channels.clear_all.Goals as goal

pub invariant_of-self : goal.invariant_of-self
invariant_of-self c =
    let sized : length c.clear_each.new.channels ≡ c.self.inside.channels.len = search rules in
    let stored : (with_items c.self.inside.channels c.clear_each.new.channels).items ≡ c.clear_each.new.channels = with_items_is c.self.inside.channels c.clear_each.new.channels sized in
    rw (stored, c.clear_each.ensures, c.as_mut_slice.ensures.value) (rising_map (over cleared) (λ x. refl) c.self.inside.channels.items c.self.invariant)
