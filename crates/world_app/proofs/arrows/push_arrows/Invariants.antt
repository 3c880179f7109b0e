use Rattle.std.proofs.Common.{◌≡◌, ◌++◌, drop, flat_map}
use Rattle.world_app.specs.Picture.{arrow_text}
use Rattle.world_app.proofs.arrows.push_arrows.Given as goal

abbrev pub invariant-loop-arrow : goal.invariant-loop-arrow
invariant-loop-arrow l =
    l.out.items ++ flat_map arrow_text (drop l.arrow-index l.arrows) ≡ l.initial.out.items ++ flat_map arrow_text l.arrows
