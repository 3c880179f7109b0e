-- The store in a folder: what it records about itself, or what it is assumed to be.
use Rattle.std.specs.Prelude.{◌≡◌, ◌≢◌, ◌==◌, ℕ, if◌then◌else◌, nat_le, List, ◌++◌, Option, None, Some, codes}
use Rattle.buffer_commands.specs.Settings.{Settings}
use Rattle.store_setup.specs.Changes.{IsOf}
use Rattle.store_setup.specs.declared.store_setup.StoreSetup.{StoreSetup}
use Rattle.journal_folder.specs.declared.store.Found.{Found}
use Rattle.journal_folder.specs.declared.store.Next.{Next}
use Rattle.journal_folder.specs.declared.store.Next.TheVariants.{BeginAnew, Describe, GoOn, Make}

-- the path of the file in which the store in a folder records what it is
abbrev pub setup_path : List ℕ → List ℕ
setup_path folder = folder ++ codes "/setup"

-- the smallest group that has a node of this number
abbrev pub holding : ℕ → ℕ
holding number = if nat_le number 3 then 3 else (if nat_le number 5 then 5 else 7)

-- what a store that was found records about itself; if it records nothing, it is assumed to have this setup, and as
-- many nodes as its journals need
abbrev pub store_told : Option StoreSetup → ℕ → Settings → StoreSetup
store_told (Some store) journals s = store
store_told None journals s = record { nodes = holding journals; renewals = 0; name = None; setup = s }

abbrev pub store_of : Found → Settings → StoreSetup
store_of found s = store_told found.store found.journals s

-- what is done with a store that records nothing about itself
abbrev pub next_of_before : ℕ → ℕ → Next
next_of_before journals nodes = if holding journals == nodes then Describe else BeginAnew

-- A store without journals is new. One with a setup and this many nodes goes on with them, and records what it is if it
-- did not; the log of any other is renewed
abbrev pub IsNext : Found → Settings → ℕ → Next → Type 0
IsNext found s nodes Make = found.journals ≡ 0
IsNext found s nodes GoOn = (found.journals ≢ 0) × (found.store ≢ None) × IsOf (store_of found s) s nodes
IsNext found s nodes Describe = (found.journals ≢ 0) × (found.store ≡ None) × IsOf (store_of found s) s nodes
IsNext found s nodes BeginAnew = (found.journals ≢ 0) × (IsOf (store_of found s) s nodes → ⊥)
