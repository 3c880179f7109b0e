use Rattle.std.specs.Prelude.{[]}
use Rattle.raft_log.specs.Seen.{seen}
use Rattle.ether.specs.Plays.{opened}
use Rattle.ether.proofs.ether.Ether.opening.Given as goal

abbrev pub ghosts-open : goal.ghosts-open
ghosts-open g a = record { becomes = opened (g.S.Stable.condition a.node.now.store).honest (seen a.node.now.state []); from = 0; fact = λ _. Unit {0} }
