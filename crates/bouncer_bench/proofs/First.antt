-- The node of a start, under equal names.
use Rattle.std.proofs.Common.{◌≡◌, ℕ, subst}
use Rattle.raft_node.specs.Parts.{Keeper, Parts}
use Rattle.raft_node.specs.Starting.{IsFirst}

pub first_as : {Setup Hosted Store B : Type 0} (k : Keeper Store B) (i j s t : ℕ) (u v : Setup) (store : Store) (n : Parts Setup Hosted Store B)
    → i ≡ j → s ≡ t → u ≡ v → IsFirst k i s u store n → IsFirst k j t v store n
first_as {Setup} k i j s t u v store n a b c h =
    subst (λ (x : ℕ). IsFirst k x t v store n) a (subst (λ (x : ℕ). IsFirst k i x v store n) b (subst (λ (x : Setup). IsFirst k i s x store n) c h))
