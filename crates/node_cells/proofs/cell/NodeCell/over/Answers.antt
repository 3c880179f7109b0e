use Rattle.std.proofs.Common.{rules, ◌≡◌, ◌≤◌, ℕ, suc, [], None, refl, sym, ap, ◌∙◌, subst}
use Rattle.raft_log.specs.declared.node_state.NodeState.{NodeState}
use Rattle.raft_log.specs.Seen.{seen}
use Rattle.recorder.specs.NodeLines.{fields_of}
use Rattle.raft_node.specs.Hosts.{hosted}
use Rattle.raft_node.specs.Machine.{Machine}
use Rattle.raft_node.specs.Parts.{Keeper, keeper}
use Rattle.ether.specs.Passes.{EtherParts, IsOpenPass, WasStarted, view_of}
use Rattle.node_cells.specs.declared.phase.Phase.TheVariants.{Up}
use Rattle.node_cells.specs.Books.{BookParts}
use Rattle.node_cells.specs.Cells.{cell_of}
use Rattle.node_cells.specs.Marks.{KnowsMarks}
use Rattle.node_cells.proofs.MarksKept.{fresh_keeps}
use Rattle.node_cells.proofs.Opening.{fresh, fresh_book, fresh_cell}
use Rattle.node_cells.proofs.cell.NodeCell.over.Given as given
use Rattle.node_cells.proofs.cell.NodeCell.over.Goals as goal

abbrev machine : (g : given.Over) → g.row.M-Setup.Denot → Machine
machine g s =
    hosted g.M.Hosted.blank g.M.Hosted.opened g.M.Hosted.shut g.M.Hosted.heard g.M.Hosted.claim g.M.Hosted.source (g.M.Machine.effects s)
    (g.M.Hosted.next_claim s) (g.M.Hosted.playback s) g.M.Hosted.class

abbrev kept : (g : given.Over) → Keeper g.row.S.Denot g.row.M-Command.Denot
kept g = keeper g.S.Stable.saved g.S.Stable.may_stand g.S.Stable.condition

pub opening-requires-clause-node : goal.opening-requires-clause-node
opening-requires-clause-node g c =
    subst (λ (e : EtherParts g.row.M-Setup.Denot). WasStarted (kept g) (suc c.args.pass.node) e.size e.setup c.args.node) (sym c.deref-2.ensures) c.requires.node

pub invariant_of-result : goal.invariant_of-result
invariant_of-result g c =
    let size : c.size-size.result ≡ c.args.ether.value.size = search rules in
    let small : c.size-size.result ≤ 7 = search rules in
    let first = c.requires.node.1 in
    let b : BookParts g.row.M-Setup.Denot g.row.M-Command.Denot g.row.M-Line.Denot g.row.M-Target.Denot g.row.M-Effect.Denot g.row.M-Played.Denot = record { ether = c.args.ether.value; pass = c.opening.new.pass; recording = c.args.recording; turns = c.new.result.items; sent = 0; room = 0 } in
    let opened = subst (λ (e : EtherParts g.row.M-Setup.Denot). IsOpenPass e c.opening.new.pass) c.deref-2.ensures c.opening.ensures.open.0 in
    fresh_book (machine g c.args.ether.value.setup) (kept g) b c.args.pass c.args.node c.opening.result c.requires.node.0 first c.new.ensures.items opened c.opening.ensures.open.1 c.opening.ensures.view c.requires.pass.2 refl (subst (λ (m : ℕ). m ≤ 7) size small)

pub invariant_of-result-2 : goal.invariant_of-result-2
invariant_of-result-2 g c =
    let size : c.size-size.result ≡ c.args.ether.value.size = search rules in
    let small : c.size-size.result ≤ 7 = search rules in
    let store = c.requires.node.0 in
    let first = c.requires.node.1 in
    let b : BookParts g.row.M-Setup.Denot g.row.M-Command.Denot g.row.M-Line.Denot g.row.M-Target.Denot g.row.M-Effect.Denot g.row.M-Played.Denot = record { ether = c.args.ether.value; pass = c.opening.new.pass; recording = c.args.recording; turns = c.new.result.items; sent = 0; room = 0 } in
    let opened = subst (λ (e : EtherParts g.row.M-Setup.Denot). IsOpenPass e c.opening.new.pass) c.deref-2.ensures c.opening.ensures.open.0 in
    let none : c.new-2.result ≡ 0 = c.new-2.ensures in (
      fresh_cell (machine g c.args.ether.value.setup) (kept g) b c.args.pass c.args.node c.opening.result store first c.new.ensures.items opened c.opening.ensures.open.1 c.opening.ensures.view c.requires.pass.2
          refl (subst (λ (m : ℕ). m ≤ 7) size small) c.args.upstream c.of-shown.result
          (c.of-shown.ensures ∙ ap (λ (s : NodeState g.row.M-Command.Denot). fields_of (seen s [])) c.state.ensures),
      subst (λ (a : ℕ). KnowsMarks g.M.Marking.marked (view_of c.opening.new.pass) a None) (sym none)
          (fresh_keeps g.M.Marking.marked (kept g) c.args.ether.value c.args.pass store c.args.upstream c.args.recording (cell_of b c.args.node c.args.upstream Up 0 c.of-shown.result)
          (fresh (machine g c.args.ether.value.setup) (kept g) b c.args.pass c.args.node c.opening.result store first c.new.ensures.items opened c.opening.ensures.open.1 c.opening.ensures.view c.requires.pass.2
          c.args.upstream c.of-shown.result) c.requires.pass.0.many c.requires.pass.2),
    )

pub returns : goal.returns
returns g c =
    λ store first.
    let b : BookParts g.row.M-Setup.Denot g.row.M-Command.Denot g.row.M-Line.Denot g.row.M-Target.Denot g.row.M-Effect.Denot g.row.M-Played.Denot = record { ether = c.args.ether.value; pass = c.opening.new.pass; recording = c.args.recording; turns = c.new.result.items; sent = 0; room = 0 } in
    let opened = subst (λ (e : EtherParts g.row.M-Setup.Denot). IsOpenPass e c.opening.new.pass) c.deref-2.ensures c.opening.ensures.open.0 in
    fresh (machine g c.args.ether.value.setup) (kept g) b c.args.pass c.args.node c.opening.result store first c.new.ensures.items opened c.opening.ensures.open.1 c.opening.ensures.view c.requires.pass.2
    c.args.upstream c.of-shown.result
