use Rattle.journal_folder.proofs.settling.settle.Goals as goal

pub returns-in-Make-clause-settled : goal.returns-in-Make-clause-settled
returns-in-Make-clause-settled g c = c.make.ensures.settled c.args.renew_at
