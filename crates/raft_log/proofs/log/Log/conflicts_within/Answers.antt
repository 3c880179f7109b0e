use Rattle.std.proofs.Common.{◌∙◌, arith}
use Rattle.std.proofs.lemmas.Bool.{le-ltb}
use Rattle.raft_log.proofs.Repairs.{conflicts_count, conflicts_none}
use Rattle.raft_log.proofs.log.Log.conflicts_within.Goals as goal

pub returns-then-standing-entries : goal.returns-then-standing-entries
returns-then-standing-entries g c =
    conflicts_none c.args.self.now c.args.prev c.args.count c.args.entries.now c.standing-standing.result c.standing-standing.ensures.value (λ few within. omega (arith, c.if-standing-entries.true))

pub returns-then-end-value : goal.returns-then-end-value
returns-then-end-value g c =
    conflicts_count c.args.self.now c.args.prev c.args.count c.args.entries.now c.standing-standing.result c.standing-standing.ensures.value
    (omega (arith, c.if-standing-entries.false, c.standing-standing.ensures.few))
    (omega (arith, c.if-end-value.true, c.len.ensures.value, c.value.ensures.value, c.value-2.ensures.value))

pub returns-else-end-value : goal.returns-else-end-value
returns-else-end-value g c =
    le-ltb _ _ c.if-end-value.false
    ∙ conflicts_none c.args.self.now c.args.prev c.args.count c.args.entries.now c.standing-standing.result c.standing-standing.ensures.value
    (λ few within. omega (arith, c.if-end-value.false, c.len.ensures.value, c.value.ensures.value, c.value-2.ensures.value))
