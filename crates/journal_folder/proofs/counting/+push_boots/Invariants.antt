use Rattle.journal_folder.proofs.counting.+push_boots.Given as goal

-- fewer are left
abbrev pub decreases-push_boots : goal.decreases-push_boots
decreases-push_boots l = l.nodes
