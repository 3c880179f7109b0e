-- Nodes are looked at, first one and then those after it.
use Rattle.std.proofs.Common.{◌≡◌, ℕ, suc, ◌+◌, ◌-◌, ◌<◌, ◌≤◌, refl, subst, arith}
use Rattle.std.specs.Prelude.{slice_get}
use Rattle.driver.specs.declared.driver.Driver.{Driver}
use Rattle.driver.specs.Absences.{HangNodes, HangsIf, begins_in}

pub hang_more : (id now : ℕ) (old behind new : Driver) → id < 8 → HangsIf (begins_in old.settings.timeout_ms now (slice_get old.monitors (id - 1))) now id old behind → HangNodes (8 - (id + 1)) now (id + 1) behind new → HangNodes (8 - id) now id old new
unfolding HangNodes
hang_more id now old behind new within hangs more =
    let count : suc (8 - (id + 1)) ≡ 8 - id = omega (arith, within) in
    subst (λ (count : ℕ). HangNodes count now id old new) count (behind, hangs, more)

-- after the last node none is left
pub hang_none : (id now : ℕ) (driver : Driver) → 8 ≤ id → HangNodes (8 - id) now id driver driver
unfolding HangNodes
hang_none id now driver over =
    let none : 0 ≡ 8 - id = omega (arith, over) in
    subst (λ (count : ℕ). HangNodes count now id driver driver) none refl
