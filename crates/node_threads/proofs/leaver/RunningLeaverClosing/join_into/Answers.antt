use Rattle.raft_node.specs.Parts.{Keeper, keeper}
use Rattle.node_threads.proofs.Crew.{joined_late, joined_open, next_late, next_open}
use Rattle.node_threads.proofs.leaver.RunningLeaverClosing.join_into.Given as given
use Rattle.node_threads.proofs.leaver.RunningLeaverClosing.join_into.Goals as goal

abbrev kept : (g : given.Over) → Keeper g.row.S.Denot g.row.M-Command.Denot
kept g = keeper g.S.Stable.saved g.S.Stable.may_stand g.S.Stable.condition

pub close-requires : goal.close-requires
close-requires g c = next_open (kept g) g.L.Opener.gives c.args.left.now c.args.self.promise.place.value c.in-Open.cell c.requires c.in-Open.ensures

pub returns-in-Open : goal.returns-in-Open
returns-in-Open g c = joined_open (kept g) g.L.Opener.gives c.args.left.now c.args.self.promise.place.value c.in-Open.cell c.close.new.self c.in-Open.ensures c.close.ensures

pub close_unopened-requires : goal.close_unopened-requires
close_unopened-requires g c = next_late (kept g) g.L.Opener.gives c.args.left.now c.args.self.promise.place.value c.in-Late.cell _ c.requires c.in-Late.ensures

pub returns : goal.returns
returns g c =
    joined_late (kept g) g.L.Opener.gives c.args.left.now c.args.self.promise.place.value c.in-Late.cell _ c.close_unopened.new.self c.in-Late.ensures c.close_unopened.ensures
