-- Whether a journal is no longer at its path.
use Rattle.std.specs.Prelude.{◌≡◌, ◌≢◌, Bool, true, false, Result, Ok, Err}
use Rattle.std.specs.declared.io.ErrorKind.{ErrorKind}
use Rattle.std.specs.declared.io.ErrorKind.TheVariants.{NotADirectory, NotFound}
use Rattle.file_disk.specs.declared.file_id.FileId.{FileId}

-- an error of this kind says that nothing is at a path
abbrev pub is_missing : ErrorKind → Bool
is_missing NotFound = true
is_missing NotADirectory = true
is_missing _ = false

-- The result of a look at the path of a file that was opened, if errors have these kinds: another
-- file is there, or nothing. Any other error says nothing about that.
abbrev pub IsAway : {E : Type 0} → (E → ErrorKind) → FileId → Result FileId E → Bool → Type 0
IsAway kind opened (Ok file) true = file ≢ opened
IsAway kind opened (Ok file) false = file ≡ opened
IsAway kind opened (Err error) away = away ≡ is_missing (kind error)
