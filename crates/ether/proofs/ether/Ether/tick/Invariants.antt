use Rattle.raft_node.specs.Hosts.{hosted}
use Rattle.raft_node.specs.Machine.{Machine}
use Rattle.ether.specs.Plays.{ticked}
use Rattle.ether.proofs.ether.Ether.tick.Given as goal

-- the machine that the nodes host
abbrev pub machine : (g : goal.Types) → g.row.M-Setup.Denot → Machine
machine g s =
    hosted g.M.Hosted.blank g.M.Hosted.opened g.M.Hosted.shut g.M.Hosted.heard g.M.Hosted.claim g.M.Hosted.source (g.M.Machine.effects s)
    (g.M.Hosted.next_claim s) (g.M.Hosted.playback s) g.M.Hosted.class

abbrev pub ghosts-count : goal.ghosts-count
ghosts-count g a = record { becomes = ticked (machine g a.self.now.setup) a.event.value; from = 0; fact = λ _. Unit {0} }
