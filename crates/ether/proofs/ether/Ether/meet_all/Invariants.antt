use Rattle.std.proofs.Common.{◌≡◌, length}
use Rattle.raft_node.specs.Hosts.{hosted}
use Rattle.raft_node.specs.Machine.{Machine}
use Rattle.ether.specs.Plays.{of_one_moment}
use Rattle.ether.proofs.Gathering.{Gathered}
use Rattle.ether.proofs.ether.Ether.meet_all.Given as goal

-- the machine that the nodes host
abbrev pub machine : (g : goal.Types) → g.row.M-Setup.Denot → Machine
machine g s =
    hosted g.M.Hosted.blank g.M.Hosted.opened g.M.Hosted.shut g.M.Hosted.heard g.M.Hosted.claim g.M.Hosted.source (g.M.Machine.effects s)
    (g.M.Hosted.next_claim s) (g.M.Hosted.playback s) g.M.Hosted.class

abbrev pub ghosts-learn : goal.ghosts-learn
ghosts-learn g a = record { becomes = λ _ k. k; from = 0; fact = of_one_moment (machine g a.self.now.setup) a.self.now.size }

abbrev pub invariant-loop-pass : goal.invariant-loop-pass
invariant-loop-pass g l = (l.seat.table_id ≡ l.fn.self.table) × Gathered l.fn.passes.items l.rest.items l.seat.me.0.views

abbrev pub decreases-loop-pass : goal.decreases-loop-pass
decreases-loop-pass g l = length l.rest.items
