-- The node that the connection to the server belongs to.
use Rattle.std.specs.Prelude.{◌≡◌, ℕ, List, Bool, Option, Some, None}
use Rattle.wire_bytes.specs.declared.moment.Moment.{Moment}
use Rattle.client_gate.specs.Gates.{GateEffect}
use Rattle.node_notes.specs.declared.progress.Progress.{Progress}
use Rattle.node_notes.specs.declared.status.Status.{Status}
use Rattle.driver.specs.declared.driver.Driver.{Driver}
use Rattle.driver.specs.Driving.{Ticks}
use Rattle.driver.specs.Leading.{IsLeader}
use Rattle.driver.specs.Links.{node_of}
use Rattle.driver.specs.Reports.{Hears}

-- a connection belongs to this node, or there is none
abbrev pub IsOf : Option ℕ → Option ℕ → Type 0
IsOf None leader = Unit {0}
IsOf (Some node) leader = leader ≡ Some node

-- The connection to the server belongs to the leader of the greatest term, as far as the driver knows, or there is
-- none.
pub record IsOfLeader (driver : Driver) : Type 0 where
  pub leader : Option ℕ
  pub is_leader : IsLeader driver.monitors leader
  pub is_of : IsOf (node_of driver.link.stage) leader

-- So it is after each report of a worker.
abbrev pub IsOfLeaderHeard : Type 0
IsOfLeaderHeard =
    (now : ℕ) (at : Moment) (node : ℕ) (status : Status) (effects : List GateEffect) (progress : Progress) (refused : Bool)
    (old new : Driver) → Hears now at node status effects progress refused old new → IsOfLeader new

-- So it is after each tick.
abbrev pub IsOfLeaderTicked : Type 0
IsOfLeaderTicked = (now : ℕ) (at : Moment) (old new : Driver) → Ticks now at old new → IsOfLeader new
