-- Why a log is not renewed.
use Rattle.std.specs.Prelude.{◌≡◌, ◌≤◌, ◌*◌, ℕ, List, length, string_bytes, ⊤}
use Rattle.journal_folder.specs.Beside.{IsNameless}
use Rattle.journal_folder.specs.Losses.{IsPastLast, losses_among}
use Rattle.journal_folder.specs.declared.standing.NodeJournal.{NodeJournal}
use Rattle.journal_folder.specs.declared.fault.RenewFault.{RenewFault}
use Rattle.journal_folder.specs.declared.fault.RenewFault.TheVariants.{Busy, Change, Journal, Loss, Memory, Mixed, NoFreeName, Renewal, Setup, Spent, StillLong, System, TooFew, UnknownName, Unnamed, Unread}

-- the system refuses it, or memory ran out
abbrev pub IsOfFiles : RenewFault → Type 0
IsOfFiles (Journal refused) = ⊤
IsOfFiles (System path error) = ⊤
IsOfFiles (Unread path error) = ⊤
IsOfFiles (Setup path fault) = ⊤
IsOfFiles (Mixed mixed) = ⊤
IsOfFiles (Busy path) = ⊤
IsOfFiles (NoFreeName path) = ⊤
IsOfFiles Memory = ⊤
IsOfFiles (UnknownName name) = ⊥
IsOfFiles (StillLong entries) = ⊥
IsOfFiles (Change keys fault) = ⊥
IsOfFiles (Loss lost fault) = ⊥
IsOfFiles (TooFew few) = ⊥
IsOfFiles (Unnamed path) = ⊥
IsOfFiles (Renewal fault) = ⊥
IsOfFiles Spent = ⊥

-- the same, or too few journals are whole, or no runs are left
abbrev pub IsOfHolding : RenewFault → Type 0
IsOfHolding (Journal refused) = ⊤
IsOfHolding (TooFew few) = ⊤
IsOfHolding (System path error) = ⊤
IsOfHolding (Unread path error) = ⊤
IsOfHolding (Setup path fault) = ⊤
IsOfHolding (Mixed mixed) = ⊤
IsOfHolding (Busy path) = ⊤
IsOfHolding (NoFreeName path) = ⊤
IsOfHolding (UnknownName name) = ⊥
IsOfHolding (StillLong entries) = ⊥
IsOfHolding (Change keys fault) = ⊥
IsOfHolding (Loss lost fault) = ⊥
IsOfHolding (Unnamed path) = ⊥
IsOfHolding (Renewal fault) = ⊥
IsOfHolding Spent = ⊤
IsOfHolding Memory = ⊤

-- The journals of a group have no states: half of them or more are lost, which are reported, or no runs are left, or
-- memory ran out
abbrev pub IsOfStanding : List NodeJournal → RenewFault → Type 0
IsOfStanding group (Journal refused) = ⊥
IsOfStanding group (TooFew few) = (few.lost.journals.items ≡ losses_among group group) × (length group ≤ 2 * length (losses_among group group))
IsOfStanding group (System path error) = ⊥
IsOfStanding group (Unread path error) = ⊥
IsOfStanding group (Setup path fault) = ⊥
IsOfStanding group (Mixed mixed) = ⊥
IsOfStanding group (Busy path) = ⊥
IsOfStanding group (NoFreeName path) = ⊥
IsOfStanding group (UnknownName name) = ⊥
IsOfStanding group (StillLong entries) = ⊥
IsOfStanding group (Change keys fault) = ⊥
IsOfStanding group (Loss lost fault) = ⊥
IsOfStanding group (Unnamed path) = ⊥
IsOfStanding group (Renewal fault) = ⊥
IsOfStanding group Spent = IsPastLast group group
IsOfStanding group Memory = ⊤

-- the log can't be renewed, no numbers are left, or memory ran out
abbrev pub IsOfLists : RenewFault → Type 0
IsOfLists (Renewal fault) = ⊤
IsOfLists (UnknownName name) = ⊤
IsOfLists (StillLong entries) = ⊤
IsOfLists (Change keys fault) = ⊤
IsOfLists (Loss lost fault) = ⊤
IsOfLists Spent = ⊤
IsOfLists Memory = ⊤
IsOfLists (Journal refused) = ⊥
IsOfLists (TooFew few) = ⊥
IsOfLists (System path error) = ⊥
IsOfLists (Unread path error) = ⊥
IsOfLists (Setup path fault) = ⊥
IsOfLists (Mixed mixed) = ⊥
IsOfLists (Busy path) = ⊥
IsOfLists (NoFreeName path) = ⊥
IsOfLists (Unnamed path) = ⊥

-- the fault that a folder has no name names one of these folders, which has none
abbrev pub IsUnnamedIn : List (List ℕ) → RenewFault → Type 0
IsUnnamedIn folders (Unnamed path) = IsNameless folders (string_bytes path)
IsUnnamedIn folders (Journal refused) = ⊤
IsUnnamedIn folders (System path error) = ⊤
IsUnnamedIn folders (Unread path error) = ⊤
IsUnnamedIn folders (Setup path fault) = ⊤
IsUnnamedIn folders (Mixed mixed) = ⊤
IsUnnamedIn folders (Busy path) = ⊤
IsUnnamedIn folders (UnknownName name) = ⊤
IsUnnamedIn folders (StillLong entries) = ⊤
IsUnnamedIn folders (Change keys fault) = ⊤
IsUnnamedIn folders (Loss lost fault) = ⊤
IsUnnamedIn folders (TooFew few) = ⊤
IsUnnamedIn folders (NoFreeName path) = ⊤
IsUnnamedIn folders (Renewal fault) = ⊤
IsUnnamedIn folders Spent = ⊤
IsUnnamedIn folders Memory = ⊤
