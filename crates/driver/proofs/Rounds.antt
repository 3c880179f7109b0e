-- Turns of nodes whose earlier runs are retired.
use Rattle.std.proofs.Common.{◌≡◌, ℕ, suc, ◌+◌, ◌-◌, ◌<◌, ◌≤◌, List, refl, subst, arith}
use Rattle.driver.specs.declared.node_monitor.NodeMonitor.{NodeMonitor}
use Rattle.driver.specs.declared.settings.Settings.{Settings}
use Rattle.driver.specs.Rounds.{Round, Spreads, SpreadsAll}

-- a node has its turn, and then those after it
pub spread_more : (settings : Settings) (now leader id : ℕ) (monitors : List NodeMonitor) (old behind new : Round) → id < 8 → Spreads settings now leader id monitors old behind → SpreadsAll (8 - (id + 1)) settings now leader (id + 1) monitors behind new → SpreadsAll (8 - id) settings now leader id monitors old new
unfolding SpreadsAll
spread_more settings now leader id monitors old behind new within spreads more =
    let count : suc (8 - (id + 1)) ≡ 8 - id = omega (arith, within) in
    subst (λ (count : ℕ). SpreadsAll count settings now leader id monitors old new) count (behind, spreads, more)

-- after the last node none has one
pub spread_none : (settings : Settings) (now leader id : ℕ) (monitors : List NodeMonitor) (last : Round) → 8 ≤ id → SpreadsAll (8 - id) settings now leader id monitors last last
unfolding SpreadsAll
spread_none settings now leader id monitors last over =
    let none : 0 ≡ 8 - id = omega (arith, over) in
    subst (λ (count : ℕ). SpreadsAll count settings now leader id monitors last last) none refl
