use Rattle.fold_app.proofs.bodies.fold_line.Goals as goal

pub returns-clause-applied : goal.returns-clause-applied
returns-clause-applied g c = (_, c.in_ok-body.ensures.ok, c.in_ok-fold_body.ensures.applied)
