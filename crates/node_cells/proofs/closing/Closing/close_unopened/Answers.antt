use Rattle.std.proofs.Common.{rules, suc, List, ◌≡◌, sym, ap, ◌∙◌, subst, length, ◌<◌}
use Rattle.raft_node.specs.Hosts.{hosted}
use Rattle.raft_node.specs.Machine.{Machine}
use Rattle.ether.specs.declared.pass.Pass.{Pass}
use Rattle.ether.specs.Passes.{EtherParts}
use Rattle.node_cells.specs.Groups.{IsClosing, RecordOf}
use Rattle.node_cells.specs.Unopened.{IsEmptyRecord}
use Rattle.node_cells.proofs.Gathered.{has_room, unopened_next}
use Rattle.node_cells.proofs.closing.Closing.close_unopened.Given as given
use Rattle.node_cells.proofs.closing.Closing.close_unopened.Goals as goal

abbrev machine : (g : given.Over) → g.row.M-Setup.Denot → Machine
machine g s =
    hosted g.M.Hosted.blank g.M.Hosted.opened g.M.Hosted.shut g.M.Hosted.heard g.M.Hosted.claim g.M.Hosted.source (g.M.Machine.effects s)
    (g.M.Hosted.next_claim s) (g.M.Hosted.playback s) g.M.Hosted.class

pub push_reserved-requires : goal.push_reserved-requires
push_reserved-requires g c =
    let few : length c.self.inside.passes.items < c.self.inside.ether.value.size = has_room _ _ c.self.inside.passes.items _ c.self.view_is c.requires.few in
    search rules

pub invariant_of-self : goal.invariant_of-self
invariant_of-self g c =
    let i = c.self.inside in
    let e = i.ether.value in
    let r = c.leave-pass.result.1 in
    let ether : c.args.cell.ether ≡ e = c.requires.ether ∙ sym (ap (λ z. z.ether) c.self.view_is) in
    let empty = subst (λ (z : EtherParts g.row.M-Setup.Denot). IsEmptyRecord (machine g z.setup) c.args.cell.ether.size (suc c.args.cell.pass.node) r) ether c.leave-pass.ensures.record in
    let next = unopened_next (machine g e.setup) e i.recording i.passes.items i.records.items _ c.args.cell c.leave-pass.result.0 r c.self.view_is c.self.invariant.0 c.requires c.leave-pass.ensures.pass.0 c.leave-pass.ensures.pass.1 empty in (
      subst (λ (z : List (Pass g.row.M-Command.Denot g.row.M-Line.Denot g.row.M-Target.Denot) × List (RecordOf (machine g e.setup))). IsClosing (machine g e.setup) e i.recording z.0 z.1)
          (λ d. (sym c.push_reserved.ensures.items d, sym c.push_reserved-2.ensures.items d)) next,
      search rules,
      search rules,
    )
