-- The plan for renewing a group.
use Rattle.std.specs.Prelude.{◌≡◌, ◌⊎◌, ℕ, suc, ◌+◌, ◌<◌, List, [], ◌∷◌, drop, length, take}
use Rattle.bouncer_tower.specs.Bodies.{TowerBody}
use Rattle.buffer_commands.specs.Settings.{Settings}
use Rattle.stable_store.specs.declared.saved.Saved.{Saved}
use Rattle.store_setup.specs.declared.store_setup.StoreSetup.{StoreSetup}
use Rattle.renewal.specs.Lists.{IsRenewal}
use Rattle.journal_folder.specs.Counting.{IsMostUpToDate, IsOneOf, all_boots, boot_told, greatest_term, own_boot}
use Rattle.journal_folder.specs.declared.planning.Plan.{Plan}
use Rattle.journal_folder.specs.declared.renewed.Renewed.{Renewed}
use Rattle.wire_bytes.specs.Limits.{number_limit}

-- the number after each of these
abbrev pub are_next : List ℕ → List ℕ
are_next [] = []
are_next (n ∷ ns) = (n + 1) ∷ are_next ns

-- The log of one of these stores, which is as up to date as any other, is renewed as that of the plan, from one setup
-- to another, without these names of clients; the run of each of this many nodes is the one after the greatest that its
-- own store or a log mentions, and the term is that after the greatest one
pub record IsPlan (s t : Settings) (nodes : ℕ) (forgotten : List (List ℕ)) (group : List (Saved TowerBody)) (plan : Plan) : Type 0 where
  pub chosen : Saved TowerBody
  pub one : IsOneOf chosen group
  pub most : IsMostUpToDate chosen group
  pub before : plan.before ≡ length chosen.log
  pub renewal : IsRenewal s t forgotten (all_boots group) (greatest_term group) chosen.log plan.renewal.log
  pub boots : plan.boots.items ≡ are_next (take nodes (all_boots group))
  pub term : plan.term ≡ greatest_term group + 1

-- Each of the new stores, the first of which is this node's, has a later run than its own old store, if it had one, and
-- than any that a log of the group mentions; and a later term than all old stores: no vote was given in that term
abbrev pub AreBehind : ℕ → List (Saved TowerBody) → List (Saved TowerBody) → List (Saved TowerBody) → Type 0
AreBehind node owns group [] = Unit {0}
AreBehind node owns group (new ∷ news) =
    (own_boot owns < new.boot) × (boot_told node group < new.boot) × (greatest_term group < new.term) × AreBehind (suc node) (drop 1 owns) group news

-- one of these is the greatest number
abbrev pub IsAnySpent : List ℕ → Type 0
IsAnySpent [] = ⊥
IsAnySpent (n ∷ ns) = (n ≡ number_limit) ⊎ IsAnySpent ns

-- the term of a group or the run of one of this many nodes is the greatest number
abbrev pub IsSpent : ℕ → List (Saved TowerBody) → Type 0
IsSpent nodes group = (greatest_term group ≡ number_limit) ⊎ IsAnySpent (take nodes (all_boots group))

-- what is reported of a renewal is that of its plan: how many entries the log had and has, and how much is kept in it
pub record Tells (plan : Plan) (told : Renewed) : Type 0 where
  pub before : told.before ≡ plan.before
  pub now : told.now ≡ length plan.renewal.log
  pub targets : told.targets ≡ plan.renewal.targets
  pub lines : told.lines ≡ plan.renewal.lines

-- that of a plan for this group
pub record IsTold (s t : Settings) (forgotten : List (List ℕ)) (nodes : ℕ) (group : List (Saved TowerBody)) (told : Renewed) : Type 0 where
  pub plan : Plan
  pub is : IsPlan s t nodes forgotten group plan
  pub tells : Tells plan told

-- that of some group of as many nodes as a store says, from the setup of the store
pub record IsToldOf (store : StoreSetup) (t : Settings) (forgotten : List (List ℕ)) (nodes : ℕ) (told : Renewed) : Type 0 where
  pub group : List (Saved TowerBody)
  pub count : length group ≡ store.nodes
  pub of_it : IsTold store.setup t forgotten nodes group told

-- that of some store
pub record IsToldOfSome (t : Settings) (forgotten : List (List ℕ)) (nodes : ℕ) (told : Renewed) : Type 0 where
  pub store : StoreSetup
  pub of_it : IsToldOf store t forgotten nodes told
