use Rattle.std.proofs.Common.{◌≡◌, List, [], MatchOption, refl, slice_index_or, subst, sym}
use Rattle.std.proofs.lemmas.List.{take_rest}
use Rattle.bouncer_config.specs.Near.{IsNearest}
use Rattle.bouncer_config.specs.declared.key.Key.{Key}
use Rattle.bouncer_config.specs.declared.key.Key.TheVariants.{Nick}
use Rattle.bouncer_config.specs.declared.nearest.Near.{Near}
use Rattle.bouncer_config.proofs.Kept.{kept, measured}
use Rattle.bouncer_config.proofs.nearest.+nearest_of.Goals as goal

pub returns-in_ok-nearest_of-in-len1-up : goal.returns-in_ok-nearest_of-in-len1-up
returns-in_ok-nearest_of-in-len1-up t c =
    let name = c.args.name.now in
    let keys = c.args.keys.now in
    let near : Near = record { key = slice_index_or keys 0 Nick; distance = c.in_ok-distance-in-len1-up.distance } in
    let measure = measured name c.text.result.now near.key near.distance c.text.ensures c.in_ok-distance-in-len1-up.ensures.value in
    let other = c.in_ok-nearest_of-in-len1-up.field-0 in
    let rest = subst (λ (rest : List Key). MatchOption other (rest ≡ []) (IsNearest name rest)) (take_rest keys 1) c.in_ok-nearest_of-in-len1-up.ensures in
    subst (λ best. IsNearest name keys best) (sym c.nearer.ensures) (kept name keys near other c.in-len1-up.len_at_least refl measure rest)
