use Rattle.std.proofs.Common.{◌≡◌, length}
use Rattle.journal_folder.proofs.store_file.describe_all.Given as goal

-- one for each folder so far
abbrev pub invariant-loop-folder : goal.invariant-loop-folder
invariant-loop-folder g l = length l.made.items ≡ l.folder-index
