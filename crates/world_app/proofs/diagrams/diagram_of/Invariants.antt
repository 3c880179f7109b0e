use Rattle.std.proofs.Common.{◌≡◌, ◌++◌, suc, drop}
use Rattle.raft_node.specs.Hosts.{hosted}
use Rattle.raft_node.specs.Machine.{Machine}
use Rattle.agreement.specs.World.{start}
use Rattle.world_run.specs.Groups.{IsGroup, nodes_in}
use Rattle.world_app.specs.Diagrams.{arrows_from, rows_from, sent_in}
use Rattle.world_app.proofs.Known.{AreKnown}
use Rattle.world_app.proofs.diagrams.diagram_of.Given as goal

-- the machine that the nodes host
abbrev pub machine : (g : goal.Over) → g.row.M-Setup.Denot → Machine
machine g s =
    hosted g.M.Hosted.blank g.M.Hosted.opened g.M.Hosted.shut g.M.Hosted.heard g.M.Hosted.claim g.M.Hosted.source (g.M.Machine.effects s)
    (g.M.Hosted.next_claim s) (g.M.Hosted.playback s) g.M.Hosted.class

abbrev pub invariant-loop-place : goal.invariant-loop-place
invariant-loop-place g l =
    let m = machine g l.setup in
    let w = nodes_in l.group.cells.items in
    let rest = drop l.place l.events in
    (l.group.setup ≡ l.setup) × (l.group.size ≡ l.size) × IsGroup l.setup l.size l.group.cells.items
    × AreKnown m l.size l.events l.place rest w l.sending_rows.items
    × (l.rows.items ++ rows_from m (suc l.place) rest w ≡ rows_from m 1 l.events (start l.size))
    × (l.arrows.items ++ arrows_from m (sent_in m l.size l.events) (suc l.place) rest w ≡ arrows_from m (sent_in m l.size l.events) 1 l.events (start l.size))
