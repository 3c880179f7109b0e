use Rattle.std.proofs.Common.{rules, ◌≡◌, length, if◌then◌else◌}
use Rattle.std.specs.Vec.{with_items}
use Rattle.std.proofs.lemmas.List.{with_items_is}
use Rattle.buffer_targets.specs.Targets.{over, seen_all}
use Rattle.buffer_targets.proofs.ChannelEdits.{rising_map, open_seen_name}
use Rattle.buffer_targets.proofs.channels.Channels.see_open.Goals as goal

pub invariant_of-self : goal.invariant_of-self
invariant_of-self c =
    let sized : length c.see_each_open.new.channels ≡ c.self.inside.channels.len = search rules in
    let stored : (with_items c.self.inside.channels c.see_each_open.new.channels).items ≡ c.see_each_open.new.channels = with_items_is c.self.inside.channels c.see_each_open.new.channels sized in
    rw (stored, c.see_each_open.ensures, c.as_mut_slice.ensures.value) (rising_map (λ x. if x.detached then x else over (seen_all c.args.here.now) x) (open_seen_name c.args.here.now) c.self.inside.channels.items c.self.invariant)
