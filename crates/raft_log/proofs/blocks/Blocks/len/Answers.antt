use Rattle.std.proofs.Common.{arith}
use Rattle.raft_log.proofs.Joining.{seen-len}
use Rattle.raft_log.proofs.blocks.Blocks.len.Goals as goal

pub overflow_mul-result : goal.overflow_mul-result
overflow_mul-result g c =
    omega (arith, c.len.ensures, c.requires, seen-len c.self.inside.full.items c.self.inside.last.items c.args.self.now c.self.view_is c.self.invariant)

pub overflow_add-result : goal.overflow_add-result
overflow_add-result g c =
    omega (arith, c.len.ensures, c.len-2.ensures, c.requires, seen-len c.self.inside.full.items c.self.inside.last.items c.args.self.now c.self.view_is c.self.invariant)

pub returns : goal.returns
returns g c =
    omega (arith, c.len.ensures, c.len-2.ensures, seen-len c.self.inside.full.items c.self.inside.last.items c.args.self.now c.self.view_is c.self.invariant)
