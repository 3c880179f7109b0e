use Rattle.std.proofs.Common.{◌≡◌, ℕ, subst, arith}
use Rattle.world_app.specs.SendingRows.{AreEmpty}
use Rattle.world_app.proofs.Noted.{none_empty, one_empty}
use Rattle.world_app.proofs.sending_rows.no_rows.Goals as goal

pub loop-init : goal.loop-init
loop-init c = (omega arith, none_empty c.new-rows.result.items c.new-rows.ensures.items)

pub loop-preserved : goal.loop-preserved
loop-preserved c =
    (omega (arith, c.loop-test.true), one_empty c.loop.counter c.loop.rows.items c.push.new.self.items c.new.result c.in_ok-push.ensures.items c.new.ensures.items c.loop.invariant.1)

pub returns : goal.returns
returns c =
    let all : c.loop.counter ≡ c.args.size = omega (arith, c.loop-test.false, c.loop.invariant.0) in
    subst (λ (n : ℕ). AreEmpty n c.loop.rows.items) all c.loop.invariant.1
