use Rattle.std.proofs.Common.{length}
use Rattle.journal_folder.proofs.standing.+boot_told.Given as goal

-- fewer are left
abbrev pub decreases-boot_told : goal.decreases-boot_told
decreases-boot_told l = length l.group.now
