-- What is reported of a renewal.
use Rattle.std.proofs.Common.{◌≡◌, ℕ, List, length, subst}
use Rattle.bouncer_tower.specs.Bodies.{TowerBody}
use Rattle.buffer_commands.specs.Settings.{Settings}
use Rattle.stable_store.specs.declared.saved.Saved.{Saved}
use Rattle.store_setup.specs.declared.store_setup.StoreSetup.{StoreSetup}
use Rattle.journal_folder.specs.Planning.{IsPlan, IsTold, IsToldOf, Tells}
use Rattle.journal_folder.specs.declared.planning.Plan.{Plan}
use Rattle.journal_folder.specs.declared.renewed.Renewed.{Renewed}

-- that of a plan for a group, whose stores are these
pub told_of_group : (s t : Settings) (forgotten : List (List ℕ)) (nodes : ℕ) (group stores : List (Saved TowerBody)) (plan : Plan) (told : Renewed) → stores ≡ group
    → IsPlan s t nodes forgotten stores plan → Tells plan told → IsTold s t forgotten nodes group told
told_of_group s t forgotten nodes group stores plan told same is tells =
    record { plan = plan; is = subst (λ (g : List (Saved TowerBody)). IsPlan s t nodes forgotten g plan) same is; tells = tells }

-- the group belongs to a store
pub told_of_store : (store : StoreSetup) (t : Settings) (forgotten : List (List ℕ)) (nodes : ℕ) (group stores : List (Saved TowerBody)) (plan : Plan) (told : Renewed) → stores ≡ group → length group ≡ store.nodes
    → IsPlan store.setup t nodes forgotten stores plan → Tells plan told → IsToldOf store t forgotten nodes told
told_of_store store t forgotten nodes group stores plan told same count is tells =
    record { group = group; count = count; of_it = told_of_group store.setup t forgotten nodes group stores plan told same is tells }
