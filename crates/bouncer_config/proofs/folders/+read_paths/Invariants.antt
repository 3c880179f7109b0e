use Rattle.std.proofs.Common.{length}
use Rattle.bouncer_config.proofs.folders.+read_paths.Given as goal

abbrev pub decreases-read_paths : goal.decreases-read_paths
decreases-read_paths l = length l.values.now
