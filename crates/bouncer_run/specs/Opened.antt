-- Journals of which some may not be open.
use Rattle.std.specs.Prelude.{◌≡◌, ℕ, suc, Bool, false, List, [], ◌∷◌, Option, None, Some, IfSome}
use Rattle.bouncer_tower.specs.Bodies.{TowerBody}
use Rattle.stable_store.specs.declared.saved.Saved.{Saved}
use Rattle.journal_folder.specs.Runs.{run_told, those_there}
use Rattle.node_threads.specs.declared.opener.PartStore.{PartStore}
use Rattle.node_threads.specs.declared.opener.PartStore.TheVariants.{Ready, Late}
use Rattle.bouncer_run.specs.declared.opening.Unopened.{Unopened}
use Rattle.bouncer_run.specs.declared.opening.Unopened.TheVariants.{Memory, Told}
use Rattle.bouncer_run.specs.declared.run_fault.RunFault.{RunFault}
use Rattle.bouncer_run.specs.declared.run_fault.RunFault.TheVariants as fault

-- a journal is not broken, if it is open
abbrev pub Serves : {J : Type 0} → (J → Bool) → Option J → Type 0
Serves broken journal = IfSome journal (λ j. broken j ≡ false)

-- a store that is not as it must be: out of memory, or as was reported
abbrev pub unopened_by : RunFault → Unopened
unopened_by fault.Memory = Memory
unopened_by _ = Told

-- the last run of a node that the logs of these journals show, as far as they are open
abbrev pub run_of_group : List (Option (Saved TowerBody)) → ℕ → ℕ
run_of_group owns node = run_told node (those_there owns)

module _ {J L : Type 0} (run_of : L → ℕ) where
  -- a node starts over its journal, if that is open; else over what opens it late, if that is of
  -- this run or a later one
  abbrev pub IsOver : ℕ → Option J → PartStore J L → Type 0
  IsOver run (Some journal) (Ready store) = store ≡ journal
  IsOver run (Some journal) (Late late) = ⊥
  IsOver run None (Ready store) = ⊥
  IsOver run None (Late late) = run_of late ≡ run

  -- and so for each node from this one on
  abbrev pub AreOver : (ℕ → ℕ) → ℕ → List (Option J) → List (PartStore J L) → Type 0
  AreOver run node [] [] = Unit {0}
  AreOver run node [] (s ∷ stores) = ⊥
  AreOver run node (j ∷ journals) [] = ⊥
  AreOver run node (j ∷ journals) (s ∷ stores) = IsOver (run node) j s × AreOver run (suc node) journals stores
