use Rattle.std.proofs.Common.{◌≡◌, ◌++◌, ◌-◌, ◌*◌, List, take, sym, ap, ◌∙◌, append_assoc, arith}
use Rattle.std.proofs.lemmas.Result.{on_ok_weaker}
use Rattle.raft_log.specs.Blocks.{joined}
use Rattle.raft_log.proofs.Joining.{seen-len, blocks, take-last}
use Rattle.raft_log.proofs.blocks.Blocks.replace_behind.Goals as goal

pub overflow_mul-closed : goal.overflow_mul-closed
overflow_mul-closed g c =
    omega (arith, c.len-closed.ensures, c.requires.limit, seen-len c.self.inside.full.items c.self.inside.last.items c.args.self.now c.self.view_is c.self.invariant)

pub overflow_sub-keep-then-closed-keep : goal.overflow_sub-keep-then-closed-keep
overflow_sub-keep-then-closed-keep g c =
    omega (arith, c.len-closed.ensures, c.requires.within, c.self.invariant.few, seen-len c.self.inside.full.items c.self.inside.last.items c.args.self.now c.self.view_is c.self.invariant)

pub replace_tail-requires : goal.replace_tail-requires
replace_tail-requires g c =
    omega (arith, c.len-closed.ensures, c.requires.within, seen-len c.self.inside.full.items c.self.inside.last.items c.args.self.now c.self.view_is c.self.invariant)

pub returns-then-len-keep-clause-ok : goal.returns-then-len-keep-clause-ok
returns-then-len-keep-clause-ok g c =
    let full : List (List g.row.T.Denot) = c.self.inside.full.items in
    let last : List g.row.T.Denot = c.self.inside.last.items in
    let kept : List g.row.T.Denot = take (c.args.keep - c.len-closed.result * 1024) last in
    let first : take c.args.keep c.args.self.now ≡ joined full kept =
    ap (take c.args.keep) (sym c.self.view_is) ∙ take-last full last (c.args.keep - c.len-closed.result * 1024) c.args.keep c.self.invariant.are_full (omega (arith, c.len-closed.ensures, c.if-closed-keep.true))
    in
    on_ok_weaker c.replace_tail.result
    (λ h. ap (joined full) h ∙ (sym (append_assoc (blocks full) kept c.args.items.items) ∙ ap (λ (z : List g.row.T.Denot). z ++ c.args.items.items) (sym first)))
    c.replace_tail.ensures.ok
