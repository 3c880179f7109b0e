use Rattle.std.proofs.Common.{◌≡◌, ◌≢◌, ℕ, ◌++◌, [], List, length, take, drop, ap, ◌∙◌, arith}
use Rattle.raft_log.specs.declared.entry.Entry.{Entry}
use Rattle.raft_log.specs.Logs.{standing, repair}
use Rattle.raft_log.proofs.Repairs.{repaired-whole, repaired-part}
use Rattle.raft_log.proofs.log.Log.repaired.Goals as goal

pub returns-then-count-len-clause-value : goal.returns-then-count-len-clause-value
returns-then-count-len-clause-value g c =
    let log : List (Entry g.row.B.Denot) = c.args.self.now in
    let es : List (Entry g.row.B.Denot) = c.args.entries.items in
    let count : ℕ = c.standing-count.result in
    let e : count ≡ standing (drop c.args.prev log) es =
    c.standing-count.ensures.value ∙ ap (λ (l : List (Entry g.row.B.Denot)). standing (drop c.args.prev log) l) c.deref.ensures.value in
    let whole : take (length log) log ++ [] ≡ repair log c.args.prev es = repaired-whole log es c.args.prev count e (omega arith) in
    rw (c.len-then-count-len.ensures.value, c.new.ensures.items) whole

pub returns-clause-value : goal.returns-clause-value
returns-clause-value g c =
    let log : List (Entry g.row.B.Denot) = c.args.self.now in
    let es : List (Entry g.row.B.Denot) = c.args.entries.items in
    let count : ℕ = c.standing-count.result in
    let e : count ≡ standing (drop c.args.prev log) es =
    c.standing-count.ensures.value ∙ ap (λ (l : List (Entry g.row.B.Denot)). standing (drop c.args.prev log) l) c.deref.ensures.value in
    let other : count ≢ length es = λ h. c.if-count-len.false (omega arith) in
    ap (λ (z : List (Entry g.row.B.Denot)). take c.new-keep.result log ++ z) c.without_first.ensures
    ∙ repaired-part log es c.args.prev count c.new-keep.result e other (omega arith) (omega arith)
