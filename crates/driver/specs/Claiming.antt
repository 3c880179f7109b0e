-- At most one claim of a line waits at a node.
use Rattle.std.specs.Prelude.{◌≡◌, ◌≤◌, ◌&&◌, ℕ, Bool, true, false, nat_eq, List, [], ◌∷◌, ◌++◌, Some}
use Rattle.std.specs.List.{list_any}
use Rattle.bouncer_tower.specs.Bodies.{TowerBody}
use Rattle.buffer_commands.specs.declared.wire_line.WireLine.{WireLine}
use Rattle.node_notes.specs.declared.note.Note.{Note}
use Rattle.node_notes.specs.declared.note.Note.TheVariants.{Claim}
use Rattle.driver.specs.declared.driver.Driver.{Driver}
use Rattle.driver.specs.declared.order.Order.{Order}
use Rattle.driver.specs.declared.order.Order.TheVariants.{Submit}
use Rattle.driver.specs.Calls.{Call, DoesAll, DoesStep, Hear, Led, Step}
use Rattle.driver.specs.Monitors.{line_to_claim}
use Rattle.driver.specs.Links.{status_at}

-- a note asks its node to claim a line
abbrev pub is_claim : Note TowerBody WireLine → Bool
is_claim Claim = true
is_claim note = false

-- an order asks this node to claim
abbrev pub claims : ℕ → Order → Bool
claims node (Submit other note) = is_claim note && nat_eq other node
claims node order = false

-- a call asks this node to claim
abbrev pub tells_claim : ℕ → Step → Bool
tells_claim node step = list_any (claims node) step.told

-- in a call this node reports that it has applied all of its log
abbrev pub applies_all : ℕ → Call → Bool
applies_all node (Hear now at other status effects progress refused) = nat_eq other node && nat_eq status.applied status.last
applies_all node call = false

-- In this call the node is asked to claim this line, which belongs to the session that it holds.
pub record Claims (node : ℕ) (line : (ℕ × ℕ) × ℕ) (step : Step) (old new : Driver) : Type 0 where
  pub low : 1 ≤ node
  pub does : DoesStep step old new
  pub told : tells_claim node step ≡ true
  pub is_line : line_to_claim (status_at new.monitors node) ≡ Some line

-- Over every list of calls of a new driver: if a node is asked to claim a line, and the next claim that it is asked for
-- is of the same line, it reported in between that it has applied all of its log, so that the claim is not in its log,
-- or was refused.
abbrev pub OneClaimWaits : Type 0
OneClaimWaits =
    (node : ℕ) (line : (ℕ × ℕ) × ℕ) (earlier between : List Step) (first last : Step) (before told next new : Driver)
    → Led earlier before → Claims node line first before told
    → DoesAll between told next → list_any (tells_claim node) between ≡ false
    → Claims node line last next new
    → list_any (λ step. applies_all node step.call) (between ++ last ∷ []) ≡ true
