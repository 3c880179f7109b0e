use Rattle.std.proofs.Common.{length}
use Rattle.driver.proofs.clients.Clients.+tell_lines.Given as goal

abbrev pub decreases-tell_lines : goal.decreases-tell_lines
decreases-tell_lines l = length l.texts.now
