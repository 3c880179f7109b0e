use Rattle.std.proofs.Common.{◌≡◌, ◌+◌, ℕ, List, length, max, min, ap, ◌∙◌, arith}
use Rattle.raft_log.specs.declared.entry.Entry.{Entry}
use Rattle.raft_log.specs.Logs.{repair}
use Rattle.replication.proofs.Appends.{appends}
use Rattle.replication.proofs.append.append.Goals as goal

pub returns : goal.returns
returns g c =
    let log : List (Entry g.row.B.Denot) = c.args.log.now in
    let prev : ℕ = c.args.batch.prev_index in
    let es : List (Entry g.row.B.Denot) = c.args.batch.entries in
    let count : length c.entries.result.now ≡ length es = ap (length {A = Entry g.row.B.Denot}) c.entries.ensures.value in
    let given : length c.into_entries.result.items ≡ length es = ap (length {A = Entry g.row.B.Denot}) c.into_entries.ensures in
    let at : c.new.result ≡ prev + length es = omega arith in
    let sum : c.value.result + length c.entries.result.now ≡ c.new.result = omega arith in
    let rises : c.new-taken.result ≡ max c.args.standing.commit (min c.args.batch.commit c.new.result) = cc in
    let whole =
    c.repaired-entries.ensures.value
    ∙ (ap (λ (k : ℕ). repair log k c.into_entries.result.items) c.prev_index-prev.ensures.value ∙ ap (λ (l : List (Entry g.row.B.Denot)). repair log prev l) c.into_entries.ensures)
    in
    appends c.args.id c.args.from prev c.args.batch.commit es c.args.standing log
    record { standing = c.in_ok-step.step.standing; keep = c.repaired-entries.result.0; entries = c.repaired-entries.result.1; messages = c.in_ok-step.step.messages }
    c.new-taken.result c.new.result c.in_ok-step.ensures.standing_is c.in_ok-step.ensures.sends at rises whole c.repaired-entries.ensures.kept (omega arith) c.repaired-entries.ensures.room
    c.entries.ensures.limits.0 c.requires.within c.requires.follows c.requires.kept
