use Rattle.std.proofs.Common.{◌≡◌, ◌-◌, ◌+◌, suc, ℕ, false, drop, ap, sym, subst, ◌∙◌, arith}
use Rattle.std.specs.List.{All}
use Rattle.bouncer_tower.specs.Bodies.{TowerBody}
use Rattle.raft_log.specs.declared.entry.Entry.{Entry}
use Rattle.raft_log.specs.Logs.{term_at}
use Rattle.bouncer_run.specs.Days.{is_before}
use Rattle.bouncer_run.proofs.Entries.{one_more_behind}
use Rattle.bouncer_run.proofs.first_mark.last_before.Goals as goal

pub loop-behind-preserved : goal.loop-behind-preserved
loop-behind-preserved c =
    let log = c.args.log.now in
    let left : c.new-place.result ≡ suc (c.value-len.result - (c.loop-behind.behind + 1)) = omega (arith, c.new-place.ensures, c.loop-behind-test.true) in
    one_more_behind (λ (e : Entry TowerBody). is_before c.args.at e.body ≡ false) log (c.value-len.result - (c.loop-behind.behind + 1)) c.new-place.result
    (record { term = term_at log c.new-place.result; body = c.body.result.now }) left c.body.ensures
    (ap (λ (b : TowerBody). is_before c.args.at b) (sym c.get.ensures.value) ∙ (sym c.is_before.ensures ∙ c.if-is_before.false))
    (subst (λ (n : ℕ). All (λ e. is_before c.args.at e.body ≡ false) (drop n log)) (sym c.new-place.ensures) c.loop-behind.invariant)
