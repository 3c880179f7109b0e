use Rattle.std.proofs.Common.{rules, leb}
use Rattle.std.proofs.lemmas.List.Sorted.{IsPartitionPoint-from_clause, IsPartitionedBy-leb}
use Rattle.raft_log.specs.declared.run.Run.{Run}
use Rattle.raft_log.proofs.Changes.{begun-value, rising-of}
use Rattle.raft_log.proofs.run.begun_at.Goals as goal

pub returns-clause-value : goal.returns-clause-value
returns-clause-value c = λ terms is.
    let parted = IsPartitionedBy-leb (λ (r : Run). r.first) c.args.runs.now c.args.index (rising-of c.args.runs.now terms is) in
    let point = IsPartitionPoint-from_clause (λ (r : Run). leb r.first c.args.index) _ _ c.partition_point.ensures.partitioned parted (λ a r q k. search rules) in
    begun-value c.args.runs.now c.partition_point.result c.args.index terms is point
