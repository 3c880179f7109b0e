use Rattle.std.proofs.Common.{length}
use Rattle.driver.proofs.clients.Clients.+tell_absent.Given as goal

abbrev pub decreases-tell_absent : goal.decreases-tell_absent
decreases-tell_absent l = length l.channels.now
