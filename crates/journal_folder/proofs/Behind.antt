-- The runs and terms of new stores.
use Rattle.std.proofs.Common.{◌≡◌, ℕ, ◌+◌, ◌<◌, max, zero, suc, List, drop, take, sym, subst, arith}
use Rattle.bouncer_tower.specs.Bodies.{TowerBody}
use Rattle.raft_log.specs.declared.entry.Entry.{Entry}
use Rattle.stable_store.specs.declared.saved.Saved.{Saved}
use Rattle.journal_folder.specs.Counting.{all_boots, boot_told, greatest_boots, greatest_term, own_boot}
use Rattle.wire_bytes.specs.declared.limits.TheConstants.{MOST_NODES}
use Rattle.journal_folder.specs.Planning.{AreBehind, are_next}
use Rattle.journal_folder.specs.Saving.{all_begun_anew}

behind_own : (boot told : ℕ) → boot < max boot told + 1
behind_own boot told = omega arith

behind_told : (boot told : ℕ) → told < max boot told + 1
behind_told boot told = omega arith

behind_one : (n : ℕ) → n < n + 1
behind_one n = omega arith

-- stores of the runs after the first of these, in a term after all theirs
all_behind : (node nodes m : ℕ) (owns group : List (Saved TowerBody)) (log : List (Entry TowerBody))
    → AreBehind node owns group (all_begun_anew (are_next (take m (greatest_boots node nodes owns group))) (greatest_term group + 1) log)
all_behind node nodes zero owns group log = tt
all_behind node zero (suc m) owns group log = tt
all_behind node (suc nodes) (suc m) owns group log = (
  behind_own (own_boot owns) (boot_told node group),
  behind_told (own_boot owns) (boot_told node group),
  behind_one (greatest_term group),
  all_behind (suc node) nodes m (drop 1 owns) group log,
)

-- for the stores of a plan
pub of_a_plan : (nodes : ℕ) (group : List (Saved TowerBody)) (log : List (Entry TowerBody)) (boots : List ℕ) (term : ℕ) → boots ≡ are_next (take nodes (all_boots group)) → term ≡ greatest_term group + 1
    → AreBehind 1 group group (all_begun_anew boots term log)
of_a_plan nodes group log boots term runs next =
    subst (λ (ns : List ℕ). AreBehind 1 group group (all_begun_anew ns term log)) (sym runs)
    (subst (λ (n : ℕ). AreBehind 1 group group (all_begun_anew (are_next (take nodes (all_boots group))) n log)) (sym next)
    (all_behind 1 MOST_NODES nodes group group log))
