use Rattle.std.proofs.Common.{rules, ◌≡◌, length, refl}
use Rattle.std.specs.Prelude.{filter, nat_le}
use Rattle.std.specs.Vec.{with_items}
use Rattle.std.proofs.lemmas.Fn.{filter_same}
use Rattle.std.proofs.lemmas.List.{with_items_is}
use Rattle.buffer_targets.proofs.Indexes.{kept_are_above}
use Rattle.buffer_targets.proofs.index.drop_places.Goals as goal

pub lower-requires : goal.lower-requires
lower-requires c =
    let kept : c.retain.new.self.items ≡ filter (λ i. nat_le c.args.many i) c.args.places.now.items = filter_same _ _ _ (λ x b f' k. search rules) _ _ c.retain.ensures.filtered in
    rw (c.as_mut_slice.ensures.value, kept) (kept_are_above c.args.many c.args.places.now.items)

pub returns : goal.returns
returns c =
    let kept : c.retain.new.self.items ≡ filter (λ i. nat_le c.args.many i) c.args.places.now.items = filter_same _ _ _ (λ x b f' k. search rules) _ _ c.retain.ensures.filtered in
    let sized : length c.lower.new.places ≡ c.retain.new.self.len = search rules in
    let stored : (with_items c.retain.new.self c.lower.new.places).items ≡ c.lower.new.places = with_items_is c.retain.new.self c.lower.new.places sized in
    rw (stored, c.lower.ensures, c.as_mut_slice.ensures.value, kept) refl
