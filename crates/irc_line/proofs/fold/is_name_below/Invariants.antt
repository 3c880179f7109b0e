use Rattle.std.proofs.Common.{◌≡◌, drop}
use Rattle.irc_line.specs.Names.{fold_name}
use Rattle.irc_line.specs.Keys.{is_below}
use Rattle.irc_line.proofs.fold.is_name_below.Given as goal

abbrev pub invariant-loop-i : goal.invariant-loop-i
invariant-loop-i l = is_below (fold_name (drop l.i l.a)) (fold_name (drop l.i l.b)) ≡ is_below (fold_name l.a) (fold_name l.b)
