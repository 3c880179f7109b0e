-- A node that is down gets no note but to start again.
use Rattle.std.specs.Prelude.{◌≡◌, ◌≤◌, ℕ, Bool, false, nat_eq, List, ◌∷◌, ◌++◌}
use Rattle.std.specs.List.{list_any}
use Rattle.bouncer_tower.specs.Bodies.{TowerBody}
use Rattle.buffer_commands.specs.declared.wire_line.WireLine.{WireLine}
use Rattle.node_notes.specs.declared.note.Note.{Note}
use Rattle.node_notes.specs.declared.note.Note.TheVariants.{Restart}
use Rattle.raft_node.specs.declared.node_fault.Cause.{Cause}
use Rattle.driver.specs.declared.driver.Driver.{Driver}
use Rattle.driver.specs.declared.news.News.TheVariants.{Down, Up}
use Rattle.driver.specs.declared.order.Order.{Order}
use Rattle.driver.specs.declared.order.Order.TheVariants.{Submit, Log}
use Rattle.driver.specs.Calls.{Led, Step}
use Rattle.driver.specs.Counting.{all_told}

-- this order logs that a node is up
abbrev pub tells_up : ℕ → Order → Bool
tells_up node (Log (Up other boot)) = nat_eq other node
tells_up node order = false

-- Over every list of calls of a new driver: if it was logged that a node is down, and not since that it is up, every
-- note to the node is to start again. Nodes count from 1.
abbrev pub DownIsOnlyRestarted : Type 0
DownIsOnlyRestarted =
    (node : ℕ) (cause : Cause) (came : Note TowerBody WireLine) (steps : List Step) (driver : Driver) (before between behind : List Order)
    → 1 ≤ node → Led steps driver
    → all_told steps ≡ before ++ (Log (Down node cause) ∷ (between ++ (Submit node came ∷ behind)))
    → list_any (tells_up node) between ≡ false
    → came ≡ Restart
