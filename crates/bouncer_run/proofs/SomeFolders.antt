-- A configuration that is read names the folders of the journals.
use Rattle.std.proofs.Common.{◌≡◌, ◌≤◌, ℕ, true, List, Some, ap, arith, length, map, subst, sym, ◌∙◌}
use Rattle.std.specs.Prelude.{string_bytes}
use Rattle.std.proofs.lemmas.Bool.Decides.{nat_tests}
use Rattle.std.proofs.lemmas.List.{length-map}
use Rattle.raft_log.specs.Peers.{IsGroupSize}
use Rattle.bouncer_config.specs.Found.{serves}
use Rattle.bouncer_config.specs.Placing.{IsPlaced, placed}
use Rattle.bouncer_config.specs.Reads.{Says}
use Rattle.bouncer_config.specs.declared.config.Config.{Config}

some_by : (nodes folders : ℕ) → IsGroupSize nodes → serves (Some nodes) folders ≡ true → 1 ≤ folders
some_by nodes folders group s = grind (arith, nat_tests, group, s)

-- if they are relative to the folder of a file, there are as many
pub some_folders : (file text : List ℕ) (said is : Config) → Says text said → IsPlaced file said is → 1 ≤ length is.store.items
some_folders file text said is says moved =
    let same : length is.store.items ≡ length said.store.items =
    sym (length-map is.store.items string_bytes) ∙ (ap length moved.store
    ∙ (length-map (map string_bytes said.store.items) (placed file) ∙ length-map said.store.items string_bytes)) in
    subst (λ (n : ℕ). 1 ≤ n) (sym same) (some_by (length said.listen.items) (length said.store.items) says.is.listen.group says.is.store_count)
