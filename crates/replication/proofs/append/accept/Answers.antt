use Rattle.std.proofs.Common.{◌≡◌, ◌-◌, true, false, drop, arith}
use Rattle.raft_log.specs.Logs.{agrees_at, conflicts_within}
use Rattle.raft_log.proofs.Sending.{ok_map}
use Rattle.replication.proofs.Appends.{refusing, taking}
use Rattle.replication.proofs.append.accept.Goals as goal

pub returns-then-not-agrees_at : goal.returns-then-not-agrees_at
returns-then-not-agrees_at g c =
    let other : agrees_at c.args.log.now c.args.batch.prev_index c.args.batch.prev_term ≡ false = cc in
    ok_map c.answer.result (λ step h. refusing c.args.id c.args.from 0 c.args.batch.prev_index c.args.batch.prev_term c.args.batch.commit c.args.batch.entries c.args.standing c.args.log.now step c.prev_index-prev.result h c.prev_index-prev.ensures.value other) c.answer.ensures

pub returns : goal.returns
returns g c =
    let same : agrees_at c.args.log.now c.args.batch.prev_index c.args.batch.prev_term ≡ true = cc in
    let above : c.saturating_sub-committed.result ≡ c.args.standing.commit - c.args.batch.prev_index = omega arith in
    let none : conflicts_within (drop c.args.batch.prev_index c.args.log.now) c.args.batch.entries (c.args.standing.commit - c.args.batch.prev_index) ≡ false = cc in
    ok_map c.append.result (λ step h. taking c.args.id c.args.from 0 c.args.batch.prev_index c.args.batch.prev_term c.args.batch.commit c.args.batch.entries c.args.standing c.args.log.now step h same none) c.append.ensures
