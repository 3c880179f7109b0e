use Rattle.std.proofs.Common.{◌≡◌, ℕ, ◌+◌, ◌<◌, length, ap, ◌∙◌, arith}
use Rattle.led_lists.proofs.Behind.{one_came, one_more}
use Rattle.led_lists.proofs.fold.led_behind.Goals as goal

pub loop-body-preserved : goal.loop-body-preserved
loop-body-preserved g c = (
  ap (λ (n : ℕ). n + 1) c.loop-body.invariant.0,
  λ s st.
      let lt : c.loop-body.body-index < length c.args.bodies.now = omega (arith, c.loop-body-test.true) in
      let place : c.loop-body.place + 1 ≡ c.loop-body.body-index + 2 = omega (arith, c.loop-body.invariant.0) in
      let before = c.loop-body.invariant.1 s st in (
        one_came (g.M.Machine.stands c.apply-in-loop-body.new.self s) c.args.first.now c.args.bodies.now c.loop-body.body-index (c.loop-body.place + 1) c.body-item.result lt place c.body-item.is
            (c.in_ok-apply-2.ensures.stands s _ before.0),
        one_more (g.M.Claiming.next_claim s) c.args.whose.now.term c.args.whose.now.client c.loop-body.leading c.in-Some.next c.args.first.now c.args.bodies.now c.loop-body.body-index
            c.body-item.result c.next_claim.result lt (c.next_claim.ensures s _ before.0) c.body-item.is c.brought.result c.brought.ensures c.in-Some.is
            ∙ before.1,
      ),
)
