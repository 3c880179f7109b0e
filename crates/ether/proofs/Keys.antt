-- What holds at the size and setup of an ether holds at its table's key.
use Rattle.std.proofs.Common.{◌≡◌, ℕ, sym, subst}
use Rattle.atomic_table.specs.Seated.{TableId}
use Rattle.ether.specs.declared.rule.Group.{Group}
use Rattle.ether.specs.Passes.{EtherParts}

pub at_key : {Setup : Type 0} (P : Setup → ℕ → Type 0) (key group : Group Setup) (t : TableId) (e : EtherParts Setup) → key ≡ group
    → record { table = t; size = group.size; setup = group.setup } ≡ e → P e.setup e.size → P key.setup key.size
at_key {Setup} P key group t e same is h =
    subst (λ (k : Group Setup). P k.setup k.size) (sym same) (subst (λ (x : EtherParts Setup). P x.setup x.size) (sym is) h)
