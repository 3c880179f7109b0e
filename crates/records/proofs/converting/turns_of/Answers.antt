use Rattle.std.proofs.Common.{◌∙◌, ◌++◌, ap, arith, map, sym}
use Rattle.std.proofs.lemmas.List.{append-nil, nil_from_length}
use Rattle.records.specs.Converting.{turn_of}
use Rattle.records.proofs.converting.turns_of.Goals as goal

pub returns-clause-ok : goal.returns-clause-ok
returns-clause-ok g c =
    let inv = c.loop-turn.invariant in
    let nil = nil_from_length _ (omega (arith, c.in-None.ensures.steps.0, inv.len)) in
    sym (append-nil c.loop-turn.all.items) ∙ (ap (λ ts. c.loop-turn.all.items ++ map (turn_of c.args.node) ts) (sym nil) ∙ inv.done)
