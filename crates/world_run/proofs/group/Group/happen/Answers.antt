use Rattle.raft_node.specs.Hosts.{hosted}
use Rattle.raft_node.specs.Machine.{Machine}
use Rattle.world_run.proofs.Happens.{input_comes, no_input_comes, stop_comes, no_stop_comes, restart_comes}
use Rattle.world_run.proofs.group.Group.happen.Given as given
use Rattle.world_run.proofs.group.Group.happen.Goals as goal

-- the machine that the nodes host
abbrev machine : (g : given.Over) → g.row.M-Setup.Denot → Machine
machine g s =
    hosted g.M.Hosted.blank g.M.Hosted.opened g.M.Hosted.shut g.M.Hosted.heard g.M.Hosted.claim g.M.Hosted.source (g.M.Machine.effects s)
    (g.M.Hosted.next_claim s) (g.M.Hosted.playback s) g.M.Hosted.class

pub returns-in-Some-clause-comes : goal.returns-in-Some-clause-comes
returns-in-Some-clause-comes g c =
    input_comes (machine g c.args.self.now.setup) c.in-Does.input c.args.event.now c.in_ok-doing-in-Does.field-0 c.in-Some.doing c.deref.result.now c.args.self.now.cells.items c.own.new.self.cells.items c.own.result
    c.in-Does.is c.deref.ensures.value c.in_ok-doing-in-Does.ensures c.in-Some.is c.own.ensures.comes

pub returns-in-None-clause-comes : goal.returns-in-None-clause-comes
returns-in-None-clause-comes g c =
    no_input_comes (machine g c.args.self.now.setup) c.in-Does.input c.args.event.now c.in_ok-doing-in-Does.field-0 c.deref.result.now c.args.self.now.cells.items
    c.in-Does.is c.deref.ensures.value c.in_ok-doing-in-Does.ensures c.in-None.is

pub returns-in-Restart-clause-comes : goal.returns-in-Restart-clause-comes
returns-in-Restart-clause-comes g c =
    restart_comes (machine g c.args.self.now.setup) c.args.event.now c.value.result c.in-Restart.node c.args.self.now.cells.items c.own-in-Restart.new.self.cells.items c.own-in-Restart.result
    c.in-Restart.is c.value.ensures.value c.own-in-Restart.ensures.comes

pub returns-in-Some-2-clause-comes : goal.returns-in-Some-2-clause-comes
returns-in-Some-2-clause-comes g c =
    stop_comes (machine g c.args.self.now.setup) c.in-StopIn.input c.in-StopIn.after c.args.event.now c.in_ok-doing-in-StopIn.field-0 c.in-Some-2.doing c.deref-in-StopIn.result.now c.args.self.now.cells.items c.own-in-Some-2.new.self.cells.items c.own-in-Some-2.result
    c.in-StopIn.is c.deref-in-StopIn.ensures.value c.in_ok-doing-in-StopIn.ensures c.in-Some-2.is c.own-in-Some-2.ensures.comes

pub returns-in-None-2-clause-comes : goal.returns-in-None-2-clause-comes
returns-in-None-2-clause-comes g c =
    no_stop_comes (machine g c.args.self.now.setup) c.in-StopIn.input c.in-StopIn.after c.args.event.now c.in_ok-doing-in-StopIn.field-0 c.deref-in-StopIn.result.now c.args.self.now.cells.items
    c.in-StopIn.is c.deref-in-StopIn.ensures.value c.in_ok-doing-in-StopIn.ensures c.in-None-2.is
