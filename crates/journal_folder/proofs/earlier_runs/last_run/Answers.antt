use Rattle.std.proofs.Common.{◌≡◌, ℕ, ◌+◌, ◌<◌, suc, max, length, ap, ◌∙◌, arith}
use Rattle.bouncer_tower.specs.Bodies.{TowerBody}
use Rattle.raft_log.specs.declared.entry.Entry.{Entry}
use Rattle.raft_log.specs.Logs.{term_at}
use Rattle.journal_folder.specs.Runs.{run_in}
use Rattle.journal_folder.proofs.Last.{one_more_at}
use Rattle.journal_folder.proofs.earlier_runs.last_run.Goals as goal

pub loop-before-preserved : goal.loop-before-preserved
loop-before-preserved c =
    let e : Entry TowerBody = record { term = term_at c.args.log.now c.new.result; body = c.body-body.result.now } in
    let index : c.new.result ≡ suc c.loop-before.before = omega arith in
    let next : c.loop-before.before + 1 ≡ suc c.loop-before.before = omega arith in
    let lt : c.loop-before.before < length c.args.log.now = omega (arith, c.loop-before-test.true, c.value-before-end.ensures.value, c.len.ensures.value) in
    let most : c.max-last.result ≡ max c.loop-before.last (run_in c.args.node e.body) =
    c.max-last.ensures ∙ ap (λ (n : ℕ). max c.loop-before.last n) (c.run_in.ensures.run ∙ ap (λ (b : TowerBody). run_in c.args.node b) c.get.ensures.value)
    in (
      one_more_at c.args.node c.loop-before.last c.loop-before.before c.new.result (c.loop-before.before + 1) c.max-last.result c.args.log.now e
          index next lt c.body-body.ensures most c.loop-before.invariant.0,
      omega (arith, c.max-last.ensures, c.run_in.ensures.limit, c.loop-before.invariant.1),
    )
