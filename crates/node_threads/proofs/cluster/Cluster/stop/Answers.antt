use Rattle.std.proofs.Common.{ap, ◌∙◌, subst}
use Rattle.raft_node.specs.Hosts.{hosted}
use Rattle.raft_node.specs.Machine.{Machine}
use Rattle.raft_node.specs.Parts.{Keeper, keeper}
use Rattle.ether.specs.Passes.{EtherParts}
use Rattle.node_cells.specs.declared.record.Recording.{Recording}
use Rattle.node_cells.specs.Groups.{AreRecordsOfGroup}
use Rattle.node_threads.specs.Homes.{ArePaired}
use Rattle.node_threads.specs.Places.{IsLeftView}
use Rattle.node_threads.proofs.Crew.{may_join_places, places_have_joined}
use Rattle.node_threads.proofs.cluster.Cluster.stop.Given as given
use Rattle.node_threads.proofs.cluster.Cluster.stop.Goals as goal

abbrev machine : (g : given.Over) → g.row.M-Setup.Denot → Machine
machine g s =
    hosted g.M.Hosted.blank g.M.Hosted.opened g.M.Hosted.shut g.M.Hosted.heard g.M.Hosted.claim g.M.Hosted.source (g.M.Machine.effects s)
    (g.M.Hosted.next_claim s) (g.M.Hosted.playback s) g.M.Hosted.class

abbrev kept : (g : given.Over) → Keeper g.row.S.Denot g.row.M-Command.Denot
kept g = keeper g.S.Stable.saved g.S.Stable.may_stand g.S.Stable.condition

pub join_all-requires : goal.join_all-requires
join_all-requires g c =
    let i = c.self.inside in
    may_join_places (kept g) g.L.Opener.gives i.closing i.threads.items (λ t. t.promise.place.value) c.self.invariant.2 c.self.invariant.1 c.self.invariant.3

pub finish-requires : goal.finish-requires
finish-requires g c =
    let i = c.self.inside in
    (places_have_joined (kept g) g.L.Opener.gives i.closing i.threads.items (λ t. t.promise.place.value) c.self.invariant.2 c.self.invariant.1 c.join_all.new.left c.join_all.ensures).2

pub returns : goal.returns
returns g c =
    let i = c.self.inside in
    let d = c.join_all.new.left in
    let j = places_have_joined (kept g) g.L.Opener.gives i.closing i.threads.items (λ t. t.promise.place.value) c.self.invariant.2 c.self.invariant.1 d c.join_all.ensures in
    record {
      views = d.views;
      group = subst (λ (z : EtherParts g.row.M-Setup.Denot × Recording). AreRecordsOfGroup (machine g z.0.setup) z.1 z.0.size d.views c.finish.result.items)
          (λ k. ((j.0 ∙ ap (λ z. z.ether) c.self.view_is) k, (j.1 ∙ ap (λ z. z.recording) c.self.view_is) k)) c.finish.ensures;
      left = subst (λ ps. ArePaired (IsLeftView (kept g) g.L.Opener.gives) ps d.views) (ap (λ z. z.places) c.self.view_is) j.3;
    }
