use Rattle.std.proofs.Common.{length}
use Rattle.driver.proofs.absent_channels.+text_numbered.Given as goal

abbrev pub decreases-text_numbered : goal.decreases-text_numbered
decreases-text_numbered l = length l.channels.now
