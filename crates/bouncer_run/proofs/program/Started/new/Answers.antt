use Rattle.std.proofs.Common.{length, sym, ap, ◌∙◌}
use Rattle.std.proofs.lemmas.List.{length-map}
use Rattle.bouncer_run.proofs.program.Started.new.Goals as goal

-- as many parts as stores
pub start-requires-after_bounds : goal.start-requires-after_bounds
start-requires-after_bounds g c κs within =
    sym (length-map c.in_ok-parts.parts.items _) ∙ (ap length c.in_ok-parts.ensures ∙ (c.in_ok-stores.ensures.count ∙ c.in_ok-opened.ensures.count))
