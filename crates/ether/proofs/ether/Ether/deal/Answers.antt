use Rattle.std.proofs.Common.{rules, ◌≡◌, ℕ, ◌+◌, ◌-◌, ◌*◌, ◌<◌, false, [], length, refl, sym, ap, ◌∙◌, subst, arith}
use Rattle.ether.specs.declared.pass.Pass.{Pass}
use Rattle.ether.specs.declared.rule.Group.{Group}
use Rattle.ether.specs.Passes.{AreNewAt, EtherParts}
use Rattle.ether.specs.Plays.{holding}
use Rattle.ether.specs.Rule.{blank, blanks}
use Rattle.ether.proofs.Cutting.{deals_as, few_of}
use Rattle.ether.proofs.Passes.{new_pass, one_more, dealt_seat, dealt_rest}
use Rattle.ether.proofs.Stowing.{few_slots}
use Rattle.ether.proofs.ether.Ether.deal.Goals as goal

pub split_seat-rest-requires : goal.split_seat-rest-requires
split_seat-rest-requires g c =
    let n = c.value-count.result in
    let key_is : c.self.inside.table.shared.key.size ≡ n = ap (λ (k : Group g.row.M-Setup.Denot). k.size) c.self.invariant.1 ∙ sym c.value-count.ensures.value in (
      search rules,
      search rules,
      deals_as _ c.self.inside.table.shared.key.size n c.loop-node.dealer.id c.loop-node.node (blanks n c.loop-node.node (n - c.loop-node.node)) c.loop-node.dealer.me c.loop-node.invariant.1 key_is c.loop-node-test.true,
    )

pub loop-node-preserved : goal.loop-node-preserved
loop-node-preserved g c =
    let n = c.value-count.result in
    let i = c.loop-node.node in
    let inv = c.loop-node.invariant in
    let lt = c.loop-node-test.true in
    let t = c.args.self.now.table in
    let few = few_slots n (subst (λ (m : ℕ). m < 8) (sym c.value-count.ensures.value) (few_of _ c.value-count.ensures.limits)) in
    let new : Pass g.row.M-Command.Denot g.row.M-Line.Denot g.row.M-Target.Denot = record { seat = c.split_seat-rest.new.seat; node = i; spare = n * n + i; ticks = 0 } in (
      search rules,
      dealt_rest n i c.loop-node.dealer.me c.split_seat-rest.result.me lt inv.1 c.split_seat-rest.ensures.4,
      search rules,
      subst (AreNewAt t n) (sym c.in_ok-push.ensures.items) (one_more t n c.loop-node.passes.items new inv.3
          (new_pass t n new (length c.loop-node.passes.items)
          (dealt_seat n i c.loop-node.dealer.me c.split_seat-rest.new.seat.me lt inv.1 c.split_seat-rest.ensures.2 ∙ ap (λ (x : ℕ). holding false (n * n + i) [] (blank n x)) (sym inv.2)) (search rules) inv.2 lt (omega arith) refl)),
    )

pub returns : goal.returns
returns g c =
    let size_is : c.value-count.result ≡ c.args.self.now.size = c.value-count.ensures.value ∙ ap (λ (e : EtherParts g.row.M-Setup.Denot). e.size) c.self.view_is in
    (omega (arith, c.loop-node.invariant.2, c.loop-node-test.false, c.loop-node.auto.node-end, size_is), subst (λ (m : ℕ). AreNewAt c.args.self.now.table m c.loop-node.passes.items) size_is c.loop-node.invariant.3)
