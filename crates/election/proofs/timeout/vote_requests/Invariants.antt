use Rattle.std.proofs.Common.{◌≡◌, ◌++◌, map, drop}
use Rattle.raft_log.specs.declared.message.Kind.TheVariants.{RequestVote}
use Rattle.raft_log.specs.Node.{message}
use Rattle.election.proofs.timeout.vote_requests.Given as goal

abbrev pub invariant-loop-node : goal.invariant-loop-node
invariant-loop-node g l =
    l.all.items ++ map (λ j. message l.term l.id j (RequestVote l.last_index l.last_term)) (drop l.node-index l.node-items)
    ≡ map (λ j. message l.term l.id j (RequestVote l.last_index l.last_term)) l.node-items
