use Rattle.std.proofs.Common.{map, take}
use Rattle.machine_laws.specs.Runs.{run}
use Rattle.journal_folder.proofs.Comes.{Comes}
use Rattle.journal_folder.proofs.naming.apply_all.Given as goal

abbrev pub invariant-loop-applied : goal.invariant-loop-applied
invariant-loop-applied g l =
    Comes g.M.Machine.stands l.fn.machine l.machine (run (map (λ e. e.body) (take l.applied l.log)))
