-- What is beside a folder.
use Rattle.std.specs.Prelude.{◌≡◌, ◌⊎◌, ℕ, ◌==◌, if◌then◌else◌, List, [], ◌∷◌, ◌++◌, Option, None, Some, IfSome, codes, decimal, map, option_map, string_bytes, ⊤}
use Rattle.std.specs.List.{All}
use Rattle.std.specs.Path.{path_file_name, path_with_file_name}
use Rattle.journal_folder.specs.declared.old_folders.OldFolder.{OldFolder}
use Rattle.journal_folder.specs.declared.old_folders.OldFolders.{OldFolders}
use Rattle.journal_folder.specs.declared.paths.NoPaths.{NoPaths}
use Rattle.journal_folder.specs.declared.paths.NoPaths.TheVariants.{Memory, Nameless}
use Rattle.journal_folder.specs.declared.paths.Paths.{Paths}

-- in the same folder, the name of this one with an ending; none if it has no name of its own, such as `.` and `/`
abbrev pub beside : List ℕ → List ℕ → Option (List ℕ)
beside folder ending = option_map (λ name. path_with_file_name folder (name ++ codes "." ++ ending)) (path_file_name folder)

-- the new journals of a folder are beside it, under one name until all are whole, and under another one from then on
abbrev pub ArePaths : List ℕ → Option Paths → Type 0
ArePaths folder None = beside folder (codes "renewing") ≡ None
ArePaths folder (Some paths) =
    (string_bytes paths.folder ≡ folder)
    × (beside folder (codes "renewing") ≡ Some (string_bytes paths.renewing))
    × (beside folder (codes "renewed") ≡ Some (string_bytes paths.renewed))

-- the first old folder is called old, and the next ones old-2, old-3 and so on
abbrev pub old_ending : ℕ → List ℕ
old_ending number = if number == 1 then codes "old" else codes "old-" ++ decimal number

-- a name of an old folder beside this one
pub record IsOldName (folder name : List ℕ) : Type 0 where
  pub number : ℕ
  pub is : beside folder (old_ending number) ≡ Some name

-- these are the paths of the folder that they name
abbrev pub IsPathsOfItself : Paths → Type 0
IsPathsOfItself paths = ArePaths (string_bytes paths.folder) (Some paths)

-- this is one of these folders, and has no name of its own
abbrev pub IsNameless : List (List ℕ) → List ℕ → Type 0
IsNameless [] path = ⊥
IsNameless (folder ∷ folders) path = ((path ≡ folder) × (beside folder (codes "renewing") ≡ None)) ⊎ IsNameless folders path

-- nothing can be beside one of these folders, which is named, or memory ran out
abbrev pub IsNamelessIn : List (List ℕ) → NoPaths → Type 0
IsNamelessIn folders (Nameless path) = IsNameless folders (string_bytes path)
IsNamelessIn folders Memory = ⊤

-- if an old folder was moved, it is now beside its old place, under the name of an old folder
abbrev pub IsOldFolder : OldFolder → Type 0
IsOldFolder old = IfSome old.old (λ name. IsOldName (string_bytes old.folder) (string_bytes name))

-- what became of the old folder of each of these, in their order
pub record AreOldFolders (folders : List (List ℕ)) (old : OldFolders) : Type 0 where
  pub folders_are : map (λ one. string_bytes one.folder) old.folders.items ≡ folders
  pub named : All IsOldFolder old.folders.items
