use Rattle.std.proofs.Common.{Bor, ◌≡◌, ◌-◌, ◌*◌, ◌/◌, min, length, take, List, length-take, ap, ◌∙◌, arith}
use Rattle.raft_log.specs.Blocks.{joined}
use Rattle.raft_log.proofs.Joining.{Cut, cut-full, cut-last}
use Rattle.raft_log.proofs.blocks.Blocks.first.Goals.{then-shared-len, else-shared-len}
use Rattle.raft_log.proofs.blocks.Blocks.first.Goals as goal

pub slice_bounds-copied_all-length : goal.slice_bounds-copied_all-length
slice_bounds-copied_all-length g c =
    let shared : c.min-shared.result ≡ min (c.args.count / 1024) (length c.self.inside.full.items) = grind (arith, c.min-shared.ensures, c.len.ensures) in
    let cut : Cut c.self.inside.full.items c.self.inside.last.items c.args.self.now c.args.count c.min-shared.result c.if-shared-len.cut.now =
    elim c.if-shared-len.branch [
      | then-shared-len w ↦
          cut-full c.self.inside.full.items c.self.inside.last.items c.args.self.now c.args.count c.min-shared.result w.index.result.now c.if-shared-len.cut.now c.self.view_is c.self.invariant shared
          (omega (arith, w.if-shared-len.true, c.len-2.ensures)) w.index.ensures (ap (λ (z : Bor (List g.row.T.Denot)). z.now) w.cut-is ∙ w.items-cut.ensures.value) w.items-cut.ensures.size
      | else-shared-len w ↦
          cut-last c.self.inside.full.items c.self.inside.last.items c.args.self.now c.args.count c.min-shared.result c.if-shared-len.cut.now c.self.view_is c.self.invariant shared
          (omega (arith, w.if-shared-len.false, c.len-2.ensures)) c.requires (ap (λ (z : Bor (List g.row.T.Denot)). z.now) w.cut-is ∙ w.as_slice-cut.ensures.value)
    ]
    in
    omega (arith, cut.few, length-take (c.args.count - c.min-shared.result * 1024) c.if-shared-len.cut.now)

pub returns : goal.returns
returns g c =
    let shared : c.min-shared.result ≡ min (c.args.count / 1024) (length c.self.inside.full.items) = grind (arith, c.min-shared.ensures, c.len.ensures) in
    let cut : Cut c.self.inside.full.items c.self.inside.last.items c.args.self.now c.args.count c.min-shared.result c.if-shared-len.cut.now =
    elim c.if-shared-len.branch [
      | then-shared-len w ↦
          cut-full c.self.inside.full.items c.self.inside.last.items c.args.self.now c.args.count c.min-shared.result w.index.result.now c.if-shared-len.cut.now c.self.view_is c.self.invariant shared
          (omega (arith, w.if-shared-len.true, c.len-2.ensures)) w.index.ensures (ap (λ (z : Bor (List g.row.T.Denot)). z.now) w.cut-is ∙ w.items-cut.ensures.value) w.items-cut.ensures.size
      | else-shared-len w ↦
          cut-last c.self.inside.full.items c.self.inside.last.items c.args.self.now c.args.count c.min-shared.result c.if-shared-len.cut.now c.self.view_is c.self.invariant shared
          (omega (arith, w.if-shared-len.false, c.len-2.ensures)) c.requires (ap (λ (z : Bor (List g.row.T.Denot)). z.now) w.cut-is ∙ w.as_slice-cut.ensures.value)
    ]
    in
    let full : c.in_ok-full.full.items ≡ take c.min-shared.result c.self.inside.full.items = c.in_ok-full.ensures ∙ ap (take c.min-shared.result) c.deref.ensures.value in
    ap (λ (z : List (List g.row.T.Denot)). joined z c.in_ok-last.last.items) full
    ∙ (ap (joined (take c.min-shared.result c.self.inside.full.items)) c.in_ok-last.ensures ∙ cut.first)
