use Rattle.chat_log.proofs.printing.+has_tail.Given as goal

abbrev pub decreases-has_tail : goal.decreases-has_tail
decreases-has_tail l = l.count
