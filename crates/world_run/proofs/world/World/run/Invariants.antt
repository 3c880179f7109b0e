use Rattle.std.proofs.Common.{◌≡◌, ◌++◌, drop}
use Rattle.raft_node.specs.Hosts.{hosted}
use Rattle.raft_node.specs.Machine.{Machine}
use Rattle.agreement.specs.World.{start}
use Rattle.world_run.specs.Groups.{IsGroup, nodes_in}
use Rattle.world_run.specs.Told.{events_of, outs_of}
use Rattle.world_run.specs.World.{run, outs, outputs}
use Rattle.world_run.proofs.world.World.run.Given as goal

-- the machine that the nodes host
abbrev pub machine : (g : goal.Over) → g.row.M-Setup.Denot → Machine
machine g s =
    hosted g.M.Hosted.blank g.M.Hosted.opened g.M.Hosted.shut g.M.Hosted.heard g.M.Hosted.claim g.M.Hosted.source (g.M.Machine.effects s)
    (g.M.Hosted.next_claim s) (g.M.Hosted.playback s) g.M.Hosted.class

abbrev pub invariant-loop-event : goal.invariant-loop-event
invariant-loop-event g l =
    (l.group.setup ≡ l.setup) × (l.group.size ≡ l.size) × IsGroup l.setup l.size l.group.cells.items
    × (run (machine g l.setup) (events_of (machine g l.setup) (drop l.event-index l.events)) (nodes_in l.group.cells.items)
    ≡ run (machine g l.setup) (events_of (machine g l.setup) l.events) (start l.size))
    × (outs_of (machine g l.setup) l.outs.items ++ outs (machine g l.setup) (events_of (machine g l.setup) (drop l.event-index l.events)) (nodes_in l.group.cells.items)
    ≡ outputs (machine g l.setup) l.size (events_of (machine g l.setup) l.events))
