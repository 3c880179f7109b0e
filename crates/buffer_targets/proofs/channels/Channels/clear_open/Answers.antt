use Rattle.std.proofs.Common.{rules, ◌≡◌, length, if◌then◌else◌}
use Rattle.std.specs.Vec.{with_items}
use Rattle.std.proofs.lemmas.List.{with_items_is}
use Rattle.buffer_targets.specs.Targets.{over, cleared}
use Rattle.buffer_targets.proofs.ChannelEdits.{rising_map, open_name}
use Rattle.buffer_targets.proofs.channels.Channels.clear_open.Goals as goal

pub invariant_of-self : goal.invariant_of-self
invariant_of-self c =
    let sized : length c.clear_each_open.new.channels ≡ c.self.inside.channels.len = search rules in
    let stored : (with_items c.self.inside.channels c.clear_each_open.new.channels).items ≡ c.clear_each_open.new.channels = with_items_is c.self.inside.channels c.clear_each_open.new.channels sized in
    rw (stored, c.clear_each_open.ensures, c.as_mut_slice.ensures.value) (rising_map (λ c. if c.detached then c else over cleared c) (open_name) c.self.inside.channels.items c.self.invariant)
