use Rattle.renewal.proofs.noting.folded_log.Goals as goal

pub returns-clause-stands : goal.returns-clause-stands
returns-clause-stands c = (c.in-Ok.ensures c.args.setup.now c.in_ok-noting.ensures).0
