use Rattle.std.proofs.Common.{◌≡◌, length}
use Rattle.journal_folder.proofs.making.make_folders.Given as goal

-- one for each folder so far
abbrev pub invariant-loop-folder : goal.invariant-loop-folder
invariant-loop-folder g l = length l.described.items ≡ l.folder-index
