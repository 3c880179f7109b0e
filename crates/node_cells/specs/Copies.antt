-- What a cell copies for its record: nothing if turns are not recorded.
use Rattle.std.specs.Prelude.{◌≡◌, List, [], ◌∷◌, Option, None, Some}
use Rattle.node_cells.specs.declared.for_record.ForRecord.{ForRecord}
use Rattle.node_cells.specs.declared.record.Recording.{Recording}
use Rattle.node_cells.specs.declared.record.Recording.TheVariants.{On}

module _ {A : Type 0} where
  -- if turns are recorded, this is a copy of it
  abbrev pub IsCopy : Recording → A → Option A → Type 0
  IsCopy recording x copy = recording ≡ On → copy ≡ Some x

  -- if turns are recorded, these are copies of them, in order
  abbrev pub AreCopies : Recording → List A → List A → Type 0
  AreCopies recording xs copies = recording ≡ On → copies ≡ xs

  -- the first of these, if there is one
  abbrev pub first_in : List A → Option A
  first_in [] = None
  first_in (x ∷ xs) = Some x

  -- if turns are recorded, what clauses see is kept
  abbrev pub IsKept : Recording → ForRecord A → Type 0
  IsKept recording r = IsCopy recording r.told.value r.kept
