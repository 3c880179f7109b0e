use Rattle.std.proofs.Common.{◌≡◌, drop}
use Rattle.irc_line.specs.Names.{same_name}
use Rattle.irc_line.proofs.fold.is_same_name.Given as goal

abbrev pub invariant-loop-i : goal.invariant-loop-i
invariant-loop-i l = same_name (drop l.i l.a) (drop l.i l.b) ≡ same_name l.a l.b
