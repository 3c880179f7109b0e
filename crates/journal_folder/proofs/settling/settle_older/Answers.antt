use Rattle.journal_folder.proofs.settling.settle_older.Goals as goal

pub returns-clause-settled : goal.returns-clause-settled
returns-clause-settled g c = c.describe_locked.ensures.settled c.args.renew_at
