use Rattle.std.proofs.Common.{rules, ◌≡◌, ◌∙◌, sym, ap, subst, length, map}
use Rattle.raft_node.specs.Hosts.{hosted}
use Rattle.raft_node.specs.Machine.{Machine}
use Rattle.ether.specs.Passes.{EtherParts, ArePassesOfAll, view_of}
use Rattle.world_views.specs.Rule.{IsRule}
use Rattle.node_cells.specs.Groups.{AreRecordsOfGroup, ClosingParts}
use Rattle.node_cells.proofs.Gathered.{as_many}
use Rattle.node_cells.proofs.closing.Closing.finish.Given as given
use Rattle.node_cells.proofs.closing.Closing.finish.Goals as goal

abbrev machine : (g : given.Over) → g.row.M-Setup.Denot → Machine
machine g s =
    hosted g.M.Hosted.blank g.M.Hosted.opened g.M.Hosted.shut g.M.Hosted.heard g.M.Hosted.claim g.M.Hosted.source (g.M.Machine.effects s)
    (g.M.Hosted.next_claim s) (g.M.Hosted.playback s) g.M.Hosted.class

pub meet_all-requires : goal.meet_all-requires
meet_all-requires g c =
    let i = c.self.inside in
    let all : length i.passes.items ≡ i.ether.value.size = as_many i.ether.value i.recording i.passes.items _ c.self.view_is ∙ (c.requires ∙ ap (λ z. z.ether.size) (sym c.self.view_is)) in
    let ether : c.deref.result.now ≡ i.ether.value = search rules in
    subst (λ (z : EtherParts g.row.M-Setup.Denot). ArePassesOfAll z i.passes.items) (sym ether) (all, c.self.invariant.0.passes_are)

pub returns : goal.returns
returns g c =
    let i = c.self.inside in
    let ether : c.deref.result.now ≡ i.ether.value = search rules in
    let Parts = ClosingParts g.row.M-Setup.Denot g.row.M-Command.Denot g.row.M-Line.Denot g.row.M-Target.Denot in
    let views = map view_of i.passes.items in
    let rule : IsRule (machine g i.ether.value.setup) i.ether.value.size c.meet_all.ensures.next views =
    subst (λ (z : EtherParts g.row.M-Setup.Denot). IsRule (machine g z.setup) z.size c.meet_all.ensures.next views) ether c.meet_all.ensures.rule in
    let group : AreRecordsOfGroup (machine g i.ether.value.setup) i.recording i.ether.value.size views i.records.items =
    record {
      next = c.meet_all.ensures.next;
      rule = rule;
      left = c.self.invariant.0.left;
      replays = λ honest before after. c.merged_records_replay.ensures i.ether.value.setup i.ether.value.size c.meet_all.ensures.next before views rule honest after;
    } in
    subst (λ (z : Parts). AreRecordsOfGroup (machine g z.ether.setup) z.recording z.ether.size z.views i.records.items) c.self.view_is group
