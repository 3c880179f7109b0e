-- How far the renewal of some folders has come.
use Rattle.std.specs.Prelude.{Bool, true, false, not, ◌||◌, if◌then◌else◌, List, [], ◌∷◌}
use Rattle.journal_folder.specs.declared.marks.Stage.{Stage}
use Rattle.journal_folder.specs.declared.marks.Stage.TheVariants as stage
use Rattle.journal_folder.specs.declared.marks.Marks.{Marks}
use Rattle.journal_folder.specs.declared.marks.Marks.TheVariants.{Absent, Decided, Open}

abbrev is_marked : Stage → Bool
is_marked stage.Old = false
is_marked stage.Marked = true
is_marked stage.Placed = false

abbrev is_placed : Stage → Bool
is_placed stage.Old = false
is_placed stage.Marked = false
is_placed stage.Placed = true

abbrev is_old : Stage → Bool
is_old stage.Old = true
is_old stage.Marked = false
is_old stage.Placed = false

-- there is a renewed folder beside one of the folders
abbrev pub has_marked : List Stage → Bool
has_marked [] = false
has_marked (first ∷ stages) = is_marked first || has_marked stages

-- one of them is a renewed one
abbrev pub has_placed : List Stage → Bool
has_placed [] = false
has_placed (first ∷ stages) = is_placed first || has_placed stages

-- one of them is the old one
abbrev pub has_old : List Stage → Bool
has_old [] = false
has_old (first ∷ stages) = is_old first || has_old stages

-- No folder is replaced before there is a whole renewed one beside each of them. So a renewal is decided if all are
-- marked, or if one is already replaced; if only some are marked it was not
abbrev pub marks_of : List Stage → Marks
marks_of stages = if not (has_marked stages) then Absent else (if has_placed stages || not (has_old stages) then Decided else Open)
