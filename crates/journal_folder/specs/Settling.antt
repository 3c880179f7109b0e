-- What a start did with the store in its folder.
use Rattle.std.specs.Prelude.{◌≡◌, ◌≢◌, ℕ, ◌<◌, ◌≤◌, List, [], length}
use Rattle.bouncer_tower.specs.Bodies.{TowerBody}
use Rattle.buffer_commands.specs.Settings.{Settings}
use Rattle.stable_store.specs.declared.saved.Saved.{Saved}
use Rattle.store_setup.specs.Changes.{IsOf, changed_keys}
use Rattle.store_setup.specs.declared.store_setup.StoreSetup.{StoreSetup}
use Rattle.journal_folder.specs.Counting.{most_entries}
use Rattle.journal_folder.specs.Holding.{IsHeld}
use Rattle.journal_folder.specs.Planning.{IsTold, IsToldOf}
use Rattle.journal_folder.specs.declared.loss.LostJournals.{LostJournals}
use Rattle.journal_folder.specs.declared.renewed.Renewed.{Renewed}
use Rattle.journal_folder.specs.declared.coming.Coming.{Coming}
use Rattle.journal_folder.specs.declared.coming.Coming.TheVariants as coming
use Rattle.journal_folder.specs.declared.changed_keys.ChangedKeys.{ChangedKeys}
use Rattle.journal_folder.specs.declared.settled.Settled.{Settled}
use Rattle.journal_folder.specs.declared.settled.Settled.TheVariants.{Changed, Described, Long, Lost, Made, Same, StaysLong}

-- the log of some store, whose values of these keys differ from a setup and this many nodes, was renewed for these
pub record IsChanged (t : Settings) (nodes : ℕ) (keys : ChangedKeys) (told : Renewed) : Type 0 where
  pub store : StoreSetup
  pub keys_are : keys.keys.items ≡ changed_keys store t nodes
  pub some : keys.keys.items ≢ []
  pub renewed : IsToldOf store t [] nodes told

-- Journals of some store, fewer than half of them, were lost, which are reported; its log was renewed from the states
-- of all of them. The values of these keys differ from a setup and this many nodes
pub record IsWithout (t : Settings) (nodes : ℕ) (keys : ChangedKeys) (told : Renewed) : Type 0 where
  pub store : StoreSetup
  pub keys_are : keys.keys.items ≡ changed_keys store t nodes
  pub group : IsHeld store
  pub lost : told.lost.journals.items ≡ group.standing.lost.journals.items
  pub some : told.lost.journals.items ≢ []
  pub of_it : IsTold store.setup t [] nodes group.standing.saved.items told

-- a log of some store with this setup and this many nodes had more entries than that, and the one that counts was
-- replaced by a renewed one that has no more
pub record IsShortened (t : Settings) (nodes renew_at : ℕ) (told : Renewed) : Type 0 where
  pub store : StoreSetup
  pub same : IsOf store t nodes
  pub group : List (Saved TowerBody)
  pub count : length group ≡ store.nodes
  pub of_it : IsTold store.setup t [] nodes group told
  pub long : renew_at < most_entries group
  pub short : told.now ≤ renew_at

-- A log is renewed if its store has another setup or another number of nodes, if journals are lost, or if it may be too
-- long, which is never so if that number is 0
abbrev pub IsSettled : Settings → ℕ → ℕ → Settled → Type 0
IsSettled t nodes renew_at (Changed keys told) = IsChanged t nodes keys told
IsSettled t nodes renew_at (Lost keys told) = IsWithout t nodes keys told
IsSettled t nodes renew_at (Long told) = (0 < renew_at) × IsShortened t nodes renew_at told
IsSettled t nodes renew_at (StaysLong fault) = 0 < renew_at
IsSettled t nodes renew_at (Made file) = Unit {0}
IsSettled t nodes renew_at (Described file) = Unit {0}
IsSettled t nodes renew_at Same = Unit {0}

-- the values of these keys differ between some store, and a setup and this many nodes
pub record IsOther (t : Settings) (nodes : ℕ) (keys : ChangedKeys) : Type 0 where
  pub store : StoreSetup
  pub keys_are : keys.keys.items ≡ changed_keys store t nodes
  pub some : keys.keys.items ≢ []

-- journals of some store are lost, and the values of these keys differ from a setup and this many nodes
pub record IsLosing (t : Settings) (nodes : ℕ) (lost : LostJournals) (keys : ChangedKeys) : Type 0 where
  pub store : StoreSetup
  pub keys_are : keys.keys.items ≡ changed_keys store t nodes
  pub group : IsHeld store
  pub are : lost.journals.items ≡ group.standing.lost.journals.items
  pub some : lost.journals.items ≢ []

-- if a store has another setup or another number of nodes, if journals are lost, or if its log is too long, this says
-- so
abbrev pub IsComing : Settings → ℕ → ℕ → Coming → Type 0
IsComing t nodes renew_at (coming.Changed keys) = IsOther t nodes keys
IsComing t nodes renew_at (coming.Lost lost keys) = IsLosing t nodes lost keys
IsComing t nodes renew_at (coming.Long entries) = 0 < renew_at
IsComing t nodes renew_at (coming.StaysLong fault) = 0 < renew_at
IsComing t nodes renew_at coming.New = Unit {0}
IsComing t nodes renew_at coming.Describe = Unit {0}
IsComing t nodes renew_at coming.Same = Unit {0}
