use Rattle.std.proofs.Common.{◌≤◌, length, ap, ◌∙◌, arith}
use Rattle.raft_log.specs.Lists.{item_or, with_item}
use Rattle.raft_log.specs.Peers.{PeerLists}
use Rattle.raft_log.specs.Positions.{role_of}
use Rattle.replication.proofs.Places.{match-within, match-changed}
use Rattle.replication.proofs.replies.taken.Goals as goal

pub new-next-requires : goal.new-next-requires
new-next-requires g c =
    let within : item_or c.args.standing.peers.matched c.args.from 0 ≤ length c.args.log.now = match-within (length c.args.log.now) c.args.standing.peers.matched c.args.from (c.requires.places.match_within c.requires.leads) in
    omega arith

pub returns-in-Some-clause-places : goal.returns-in-Some-clause-places
returns-in-Some-clause-places g c =
    let within : item_or c.args.standing.peers.matched c.args.from 0 ≤ length c.args.log.now = match-within (length c.args.log.now) c.args.standing.peers.matched c.args.from (c.requires.places.match_within c.requires.leads) in
    let below : c.in-Some.commit ≤ length c.args.log.now = c.in-Some.ensures.within.1 in
    match-changed (length c.args.log.now) (role_of c.args.standing.position) c.args.standing.commit c.in-Some.commit c.args.standing.peers.next c.with_next-known.result.next c.args.standing.peers.matched c.with_next-known.result.matched c.args.from c.new-reached.result c.new-next.result (omega arith) (omega arith)
    (ap (λ (p : PeerLists). p.next) c.with_next-known.ensures ∙ ap (λ (p : PeerLists). with_item p.next c.args.from c.new-next.result) c.with_match.ensures)
    (ap (λ (p : PeerLists). p.matched) c.with_next-known.ensures ∙ ap (λ (p : PeerLists). p.matched) c.with_match.ensures) below c.requires.places

pub returns-clause-places : goal.returns-clause-places
returns-clause-places g c =
    let within : item_or c.args.standing.peers.matched c.args.from 0 ≤ length c.args.log.now = match-within (length c.args.log.now) c.args.standing.peers.matched c.args.from (c.requires.places.match_within c.requires.leads) in
    match-changed (length c.args.log.now) (role_of c.args.standing.position) c.args.standing.commit c.args.standing.commit c.args.standing.peers.next c.with_next-known.result.next c.args.standing.peers.matched c.with_next-known.result.matched c.args.from c.new-reached.result c.new-next.result (omega arith) (omega arith)
    (ap (λ (p : PeerLists). p.next) c.with_next-known.ensures ∙ ap (λ (p : PeerLists). with_item p.next c.args.from c.new-next.result) c.with_match.ensures)
    (ap (λ (p : PeerLists). p.matched) c.with_next-known.ensures ∙ ap (λ (p : PeerLists). p.matched) c.with_match.ensures) c.requires.places.commit_within c.requires.places
