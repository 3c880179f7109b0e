use Rattle.raft_node.proofs.Nodes.{stands_whole, falls_whole, stood, fell}
use Rattle.raft_node.proofs.node.Node.stand.Goals as goal

pub invariant_of-self : goal.invariant_of-self
invariant_of-self g c =
    stands_whole _ _ _ _ c.self.view_is c.args.step c.requires.may c.requires.up c.self.invariant c.in-Ok.messages c.keep.new.store c.keep.new.state c.in-Ok.ensures.kept

pub invariant_of-self-in-Err : goal.invariant_of-self-in-Err
invariant_of-self-in-Err g c =
    falls_whole _ _ _ _ c.self.view_is c.args.step c.requires.may c.requires.up c.self.invariant c.in-Err.cause c.keep.new.store c.keep.new.state c.in-Err.ensures.kept

pub returns-in-Ok-clause-stood : goal.returns-in-Ok-clause-stood
returns-in-Ok-clause-stood g c =
    stood _ _ _ _ c.self.view_is c.args.step c.requires.may c.requires.up c.self.invariant
    _ c.keep.new.store c.keep.new.state c.in-Ok.messages c.in-Ok.ensures.kept c.in-Ok.ensures.sent c.new.ensures c.new-in-Ok.ensures.items

pub returns-in-Err-clause-stood : goal.returns-in-Err-clause-stood
returns-in-Err-clause-stood g c =
    fell _ _ _ _ c.self.view_is c.args.step c.requires.may c.requires.up c.self.invariant g.row.M-Effect.Denot c.in-Err.cause c.keep.new.store c.keep.new.state c.in-Err.ensures.kept
