use Rattle.std.proofs.Common.{◌-◌, ◌*◌, arith}
use Rattle.std.proofs.Math.Nat.{div-mul-le_self}
use Rattle.raft_log.proofs.Joining.{seen-len, get-full, get-last}
use Rattle.raft_log.proofs.blocks.Blocks.get.Goals as goal

pub index-requires-else-block-len : goal.index-requires-else-block-len
index-requires-else-block-len g c =
    omega (arith, c.requires, c.len.ensures, c.len-else-block-len.ensures, c.if-block-len.false, div-mul-le_self c.args.before 1024, seen-len c.self.inside.full.items c.self.inside.last.items c.args.self.now c.self.view_is c.self.invariant)

pub returns-then-block-len : goal.returns-then-block-len
returns-then-block-len g c =
    get-full c.self.inside.full.items c.self.inside.last.items c.args.self.now c.args.before c.index.result.now c.items.result.now c.index-items-before.result c.self.view_is c.self.invariant c.requires
    (omega (arith, c.if-block-len.true, c.len.ensures)) c.index.ensures c.items.ensures.value c.index-items-before.is

pub returns-else-block-len : goal.returns-else-block-len
returns-else-block-len g c =
    get-last c.self.inside.full.items c.self.inside.last.items c.args.self.now c.args.before (c.args.before - c.len-else-block-len.result * 1024) c.index-else-block-len.result.now c.self.view_is c.self.invariant c.requires
    (omega (arith, c.len.ensures, c.len-else-block-len.ensures, c.if-block-len.false, div-mul-le_self c.args.before 1024)) c.index-else-block-len.ensures
