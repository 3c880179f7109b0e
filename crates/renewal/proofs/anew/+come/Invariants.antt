use Rattle.std.proofs.Common.{length}
use Rattle.renewal.proofs.anew.+come.Given as goal

abbrev pub decreases-come : goal.decreases-come
decreases-come g l = length l.commands.now
