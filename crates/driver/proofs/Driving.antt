-- What nodes do in turn.
use Rattle.std.proofs.Common.{◌≡◌, ℕ, suc, ◌+◌, ◌-◌, ◌<◌, ◌≤◌, refl, subst, arith}
use Rattle.driver.specs.declared.driver.Driver.{Driver}
use Rattle.driver.specs.Driving.{TickNodes, TicksNode}

-- a node ticks, and then those after it
pub tick_more : (id now : ℕ) (old behind new : Driver) → id < 8 → TicksNode now id old behind → TickNodes (8 - (id + 1)) now (id + 1) behind new → TickNodes (8 - id) now id old new
unfolding TickNodes
tick_more id now old behind new within ticks more =
    let count : suc (8 - (id + 1)) ≡ 8 - id = omega (arith, within) in
    subst (λ (count : ℕ). TickNodes count now id old new) count (behind, ticks, more)

-- after the last node none ticks
pub tick_none : (id now : ℕ) (driver : Driver) → 8 ≤ id → TickNodes (8 - id) now id driver driver
unfolding TickNodes
tick_none id now driver over =
    let none : 0 ≡ 8 - id = omega (arith, over) in
    subst (λ (count : ℕ). TickNodes count now id driver driver) none refl
