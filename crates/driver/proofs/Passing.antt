-- Effects that pass in turn.
use Rattle.std.proofs.Common.{◌≡◌, ◌∷◌, ℕ, List, [], refl, subst, sym}
use Rattle.client_gate.specs.Gates.{GateEffect}
use Rattle.wire_bytes.specs.declared.moment.Moment.{Moment}
use Rattle.driver.specs.declared.driver.Driver.{Driver}
use Rattle.driver.specs.Passing.{PassEach, Passes}

-- one passes, and then those after it
pub pass_more : (now : ℕ) (at : Moment) (node : ℕ) (effect : GateEffect) (left more : List GateEffect) (old behind new : Driver) → left ≡ effect ∷ more → Passes now at node effect old behind → PassEach now at node more behind new → PassEach now at node left old new
unfolding PassEach
pass_more now at node effect left more old behind new is passes all =
    subst (λ (left : List GateEffect). PassEach now at node left old new) (sym is) (behind, passes, all)

-- no effect is left
pub pass_none : (now : ℕ) (at : Moment) (node : ℕ) (left : List GateEffect) (last : Driver) → left ≡ [] → PassEach now at node left last last
unfolding PassEach
pass_none now at node left last none =
    subst (λ (left : List GateEffect). PassEach now at node left last last) (sym none) refl
