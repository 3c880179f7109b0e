use Rattle.std.proofs.Common.{◌-◌}
use Rattle.driver.specs.Rounds.{Round, SpreadsAll, round}
use Rattle.driver.proofs.retirements.Retirements.spread_all.Given as goal

-- once the nodes from this one on have had their turns, all have
abbrev pub invariant-loop-id : goal.invariant-loop-id
invariant-loop-id l =
    (new : Round)
    → SpreadsAll (8 - l.id) l.settings l.now.ms l.leader l.id l.monitors (round l.self.all l.orders) new
    → SpreadsAll 7 l.settings l.now.ms l.leader 1 l.monitors (round l.initial.self.all l.initial.orders) new
