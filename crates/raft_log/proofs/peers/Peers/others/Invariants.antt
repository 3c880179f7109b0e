use Rattle.std.proofs.Common.{◌≡◌, ◌-◌, ◌++◌}
use Rattle.raft_log.specs.Lists.{others}
use Rattle.raft_log.proofs.Others.{left}
use Rattle.raft_log.proofs.peers.Peers.others.Given as goal

abbrev pub invariant-loop-last : goal.invariant-loop-last
invariant-loop-last l = l.all.items ++ left l.node l.size l.last ≡ others l.size l.node

abbrev pub decreases-loop-last : goal.decreases-loop-last
decreases-loop-last l = l.size - l.last
