use Rattle.std.proofs.Common.{rules, ◌≡◌, length, refl}
use Rattle.std.specs.Vec.{with_items}
use Rattle.std.proofs.lemmas.List.{with_items_is}
use Rattle.buffer_targets.specs.Targets.{seen_all}
use Rattle.buffer_targets.proofs.QueryEdits.{index_map}
use Rattle.buffer_targets.proofs.queries.Queries.see_all.Goals as goal

pub invariant_of-self : goal.invariant_of-self
invariant_of-self c =
    let sized : length c.see_each.new.targets ≡ c.self.inside.targets.len = search rules in
    let stored : (with_items c.self.inside.targets c.see_each.new.targets).items ≡ c.see_each.new.targets = with_items_is c.self.inside.targets c.see_each.new.targets sized in
    rw (stored, c.see_each.ensures, c.as_mut_slice.ensures.value) (index_map (seen_all c.args.here.now) (λ x. refl) c.self.inside.targets.items c.self.inside.places.items c.self.invariant)
