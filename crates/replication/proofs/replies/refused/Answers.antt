use Rattle.std.proofs.Common.{length, ap, arith}
use Rattle.raft_log.specs.Peers.{PeerLists}
use Rattle.raft_log.specs.Positions.{role_of}
use Rattle.replication.proofs.Places.{next-changed}
use Rattle.replication.proofs.replies.refused.Goals as goal

pub returns-then-value-clause-places : goal.returns-then-value-clause-places
returns-then-value-clause-places g c =
    next-changed (length c.args.log.now) (role_of c.args.standing.position) c.args.standing.commit c.args.standing.peers.next c.with_next-known.result.next c.args.standing.peers.matched c.with_next-known.result.matched c.args.from c.new.result (omega arith) (omega arith)
    (ap (λ (p : PeerLists). p.next) c.with_next-known.ensures) (ap (λ (p : PeerLists). p.matched) c.with_next-known.ensures) c.requires.places
