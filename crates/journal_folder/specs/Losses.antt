-- Which journals of a group are lost, and what stands in for them.
use Rattle.std.specs.Prelude.{◌≡◌, ℕ, ◌+◌, ◌*◌, ◌<◌, ◌⊎◌, ◌==◌, ◌&&◌, ◌||◌, not, Bool, true, false, if◌then◌else◌, List, [], ◌∷◌, length, Option, None, Some, is_none}
use Rattle.bouncer_tower.specs.Bodies.{TowerBody}
use Rattle.stable_store.specs.declared.saved.Saved.{Saved}
use Rattle.stable_store.specs.Stores.{nothing_saved}
use Rattle.journal_folder.specs.Counting.{boot_told}
use Rattle.journal_folder.specs.Runs.{is_older}
use Rattle.journal_folder.specs.declared.loss.Loss.{Loss}
use Rattle.journal_folder.specs.declared.loss.Loss.TheVariants.{Damaged, Empty, Missing, NotAStore, Older}
use Rattle.journal_folder.specs.declared.loss.LostJournal.{LostJournal}
use Rattle.journal_folder.specs.declared.standing.Journal.{Journal}
use Rattle.journal_folder.specs.declared.standing.Journal.TheVariants.{Lost, Whole}
use Rattle.journal_folder.specs.declared.standing.NodeJournal.{NodeJournal}
use Rattle.journal_folder.specs.declared.standing.Standing.{Standing}
use Rattle.wire_bytes.specs.Limits.{number_limit}

-- whether nothing is saved: no run, no term, no vote, no entry
abbrev pub is_nothing : {B : Type 0} → Saved B → Bool
is_nothing saved = (saved.boot == 0) && ((saved.term == 0) && (is_none saved.vote && (length saved.log == 0)))

-- what is saved in a journal, nothing if it is lost
abbrev pub held : Journal → Saved TowerBody
held (Whole saved) = saved
held (Lost loss) = nothing_saved

-- the same for each of these
abbrev pub all_held : List NodeJournal → List (Saved TowerBody)
all_held [] = []
all_held (first ∷ journals) = held first.journal ∷ all_held journals

-- whether a journal is missing, or nothing is saved in it
abbrev pub may_be_new : Journal → Bool
may_be_new (Whole saved) = is_nothing saved
may_be_new (Lost Missing) = true
may_be_new (Lost Empty) = false
may_be_new (Lost NotAStore) = false
may_be_new (Lost Older) = false
may_be_new (Lost (Damaged place)) = false

-- whether a group is new: nothing is saved in any journal that exists
abbrev pub is_new : List NodeJournal → Bool
is_new [] = true
is_new (first ∷ journals) = may_be_new first.journal && is_new journals

-- whether entries are saved in a journal
abbrev pub holds_entries : Journal → Bool
holds_entries (Whole saved) = not (length saved.log == 0)
holds_entries (Lost loss) = false

-- whether entries are saved in one of these journals
abbrev pub has_entries : List NodeJournal → Bool
has_entries [] = false
has_entries (first ∷ journals) = holds_entries first.journal || has_entries journals

-- Why a journal is lost, if it is, by whether its group is new, whether the group has entries, and whether it is older
-- than its group shows: it is missing and the group not new; it is empty and the group has entries; it is an older
-- copy; or its file showed that it is lost
abbrev pub loss_of : Bool → Bool → Bool → Journal → Option Loss
loss_of new entries older (Whole saved) = if entries && is_nothing saved then Some Empty else (if older then Some Older else None)
loss_of new entries older (Lost Missing) = if new then None else Some Missing
loss_of new entries older (Lost Empty) = Some Empty
loss_of new entries older (Lost Older) = Some Older
loss_of new entries older (Lost NotAStore) = Some NotAStore
loss_of new entries older (Lost (Damaged place)) = Some (Damaged place)

-- why a journal of a group is lost, if it is
abbrev pub loss_in : List NodeJournal → NodeJournal → Option Loss
loss_in group first = loss_of (is_new group) (has_entries group) (is_older first.node (held first.journal) (all_held group)) first.journal

-- a journal that is lost for this reason, before the others that are lost
abbrev pub with_loss : ℕ → Option Loss → List LostJournal → List LostJournal
with_loss node None lost = lost
with_loss node (Some loss) lost = record { node = node; loss = loss } ∷ lost

-- the ones among these journals of this group that are lost
abbrev pub losses_among : List NodeJournal → List NodeJournal → List LostJournal
losses_among group [] = []
losses_among group (first ∷ journals) = with_loss first.node (loss_in group first) (losses_among group journals)

-- a node whose journal is lost begins this far after the greatest run of it that the other logs mention
abbrev pub runs_apart : ℕ
runs_apart = 1000000

-- what stands in for the lost journal of a node: nothing but a run, this far after the greatest that the logs of its
-- group mention
abbrev pub stand_in : ℕ → List NodeJournal → Saved TowerBody
stand_in node group = record { boot = boot_told node (all_held group) + runs_apart; term = 0; vote = None; log = [] }

-- the state of a journal of a group, which is lost for this reason or not
abbrev pub saved_for : List NodeJournal → NodeJournal → Option Loss → Saved TowerBody
saved_for group first None = held first.journal
saved_for group first (Some loss) = stand_in first.node group

-- the states of these journals of this group
abbrev pub standing_among : List NodeJournal → List NodeJournal → List (Saved TowerBody)
standing_among group [] = []
standing_among group (first ∷ journals) = saved_for group first (loss_in group first) ∷ standing_among group journals

-- The state of each journal of a group is what is saved in it or, if it is lost, its stand-in; those that are lost are
-- reported, and they are fewer than half
pub record Stands (group : List NodeJournal) (standing : Standing) : Type 0 where
  pub saved : standing.saved.items ≡ standing_among group group
  pub lost : standing.lost.journals.items ≡ losses_among group group
  pub fewer : 2 * length (losses_among group group) < length group

-- the run that would stand in for one of these journals is past the greatest number
abbrev pub IsPastLast : List NodeJournal → List NodeJournal → Type 0
IsPastLast group [] = ⊥
IsPastLast group (first ∷ journals) = (number_limit < boot_told first.node (all_held group) + runs_apart) ⊎ IsPastLast group journals
