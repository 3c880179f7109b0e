use Rattle.std.proofs.Common.{drop}
use Rattle.raft_node.specs.Hosts.{hosted}
use Rattle.world_run.specs.World.{hands}
use Rattle.node_cells.specs.Upstreams.{HandsOut, Tally}
use Rattle.node_cells.proofs.handing.hand_all.Given as goal

abbrev pub invariant-loop-effect : goal.invariant-loop-effect
invariant-loop-effect g l =
    (s : g.row.M-Setup.Denot) (t : Tally) → HandsOut (hands (hosted g.M.Hosted.blank g.M.Hosted.opened g.M.Hosted.shut g.M.Hosted.heard g.M.Hosted.claim g.M.Hosted.source (g.M.Machine.effects s) (g.M.Hosted.next_claim s) (g.M.Hosted.playback s) g.M.Hosted.class) (drop l.effect-index l.effects)) (g.U.Upstream.tally l.upstream) t
    → HandsOut (hands (hosted g.M.Hosted.blank g.M.Hosted.opened g.M.Hosted.shut g.M.Hosted.heard g.M.Hosted.claim g.M.Hosted.source (g.M.Machine.effects s) (g.M.Hosted.next_claim s) (g.M.Hosted.playback s) g.M.Hosted.class) l.effects) (g.U.Upstream.tally l.fn.upstream) t
