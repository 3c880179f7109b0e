use Rattle.std.proofs.Common.{◌≡◌, ℕ, ◌-◌, suc, None, take, ap, sym, subst, ◌∙◌, arith}
use Rattle.std.specs.List.{All}
use Rattle.bouncer_tower.specs.Bodies.{TowerBody}
use Rattle.raft_log.specs.declared.entry.Entry.{Entry}
use Rattle.raft_log.specs.Lists.{item}
use Rattle.raft_log.specs.Logs.{term_at}
use Rattle.bouncer_run.specs.Days.{moment_in}
use Rattle.bouncer_run.proofs.Entries.{all_before, one_more_before}
use Rattle.bouncer_run.proofs.first_mark.first.Goals as goal

pub returns-in-Some : goal.returns-in-Some
returns-in-Some c =
    let log = c.args.log.now in
    let place : c.value.result ≡ c.new-place.result = c.value.ensures.value in
    let so_far : c.loop-before.before ≡ c.value.result - 1 = omega (arith, place, c.new-place.ensures) in
    record {
      entry = record { term = term_at log c.new-place.result; body = c.body.result.now };
      place = ap (λ (n : ℕ). item log n) place ∙ c.body.ensures;
      moment = ap (λ (b : TowerBody). moment_in b) (sym c.get.ensures.value) ∙ (sym c.moment_in.ensures ∙ c.in-Some.is);
      none_before = subst (λ (n : ℕ). All (λ e. moment_in e.body ≡ None) (take n log)) so_far c.loop-before.invariant;
    }

pub loop-before-preserved : goal.loop-before-preserved
loop-before-preserved c =
    let log = c.args.log.now in
    let next : c.new-place.result ≡ suc c.loop-before.before = omega (arith, c.new-place.ensures) in
    one_more_before (λ (e : Entry TowerBody). moment_in e.body ≡ None) log c.loop-before.before c.new-place.result (record { term = term_at log c.new-place.result; body = c.body.result.now }) next c.body.ensures
    (ap (λ (b : TowerBody). moment_in b) (sym c.get.ensures.value) ∙ (sym c.moment_in.ensures ∙ c.in_default.is)) c.loop-before.invariant

pub returns : goal.returns
returns c =
    let log = c.args.log.now in
    all_before (λ (e : Entry TowerBody). moment_in e.body ≡ None) log c.loop-before.before
    (omega (arith, c.loop-before-test.false, c.value-before-end.ensures.value, c.len.ensures.value)) c.loop-before.invariant
