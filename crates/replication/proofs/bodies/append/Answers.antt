use Rattle.std.proofs.Common.{◌∷◌, [], ◌++◌, List, refl, ap, ◌∙◌}
use Rattle.raft_log.specs.declared.entry.Entry.{Entry}
use Rattle.replication.proofs.Asking.{adds}
use Rattle.replication.proofs.bodies.append.Goals as goal

pub returns : goal.returns
returns g c =
    let e : Entry g.row.B.Denot = record { term = c.args.standing.term; body = c.args.body } in
    let added = c.in_ok-push.ensures.items ∙ ap (λ (l : List (Entry g.row.B.Denot)). l ++ e ∷ []) c.in_ok-entries.ensures.items in
    adds c.args.standing c.args.log.now _ c.args.body e c.still-step.ensures.standing_is c.still-step.ensures.keeps_all added c.still-step.ensures.sends refl c.requires
