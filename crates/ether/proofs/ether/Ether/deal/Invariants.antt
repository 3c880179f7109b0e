use Rattle.std.proofs.Common.{◌≡◌, ◌+◌, ◌-◌, ◌*◌, length, []}
use Rattle.ether.specs.Passes.{AreNewAt}
use Rattle.ether.specs.Rule.{blanks, known}
use Rattle.ether.specs.Rule.Spare.{Bank}
use Rattle.ether.proofs.ether.Ether.deal.Given as goal

abbrev pub invariant-loop-node : goal.invariant-loop-node
invariant-loop-node g l =
    (l.dealer.table_id ≡ l.fn.self.table)
    × (l.dealer.me ≡ (known (Bank (l.count * l.count + l.node)) [] (blanks l.count l.node (l.count - l.node)), []))
    × (length l.passes.items ≡ l.node) × AreNewAt l.fn.self.table l.count l.passes.items
