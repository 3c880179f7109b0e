use Rattle.std.proofs.Common.{rules, ◌≡◌, ◌+◌, suc, sym, ap, ◌∙◌, subst}
use Rattle.raft_log.specs.Node.{Node}
use Rattle.raft_node.specs.Hosts.{hosted}
use Rattle.raft_node.specs.Machine.{Machine}
use Rattle.raft_node.specs.declared.input.Input.TheVariants.{Ask}
use Rattle.node_cells.specs.Cells.{view_in}
use Rattle.node_cells.specs.Turns.{IsTurn}
use Rattle.node_cells.specs.Marking.{own_mark}
use Rattle.node_cells.proofs.cell.NodeCell.mark.Given as given
use Rattle.node_cells.proofs.cell.NodeCell.mark.Goals as goal

abbrev machine : (g : given.Over) → g.row.M-Setup.Denot → Machine
machine g s =
    hosted g.M.Hosted.blank g.M.Hosted.opened g.M.Hosted.shut g.M.Hosted.heard g.M.Hosted.claim g.M.Hosted.source (g.M.Machine.effects s)
    (g.M.Hosted.next_claim s) (g.M.Hosted.playback s) g.M.Hosted.class

pub returns-in-Ok-clause-mark : goal.returns-in-Ok-clause-mark
returns-in-Ok-clause-mark g c =
    let cell = c.args.self.now.parts in
    let node : c.value.result ≡ suc (view_in cell).node = c.value.ensures.value ∙ c.id.ensures.view in
    let boot : c.state.result.now.standing.boot ≡ cell.node.state.standing.boot = (λ d. (c.state.ensures.state d).standing.boot) in
    let made : c.mark.result ≡ g.M.Hosted.mark (own_mark (machine g cell.ether.setup) cell (c.value-asked.result + 1)) =
    c.mark.ensures ∙ (λ d. g.M.Hosted.mark (record { node = node d; boot = boot d; number = c.new.ensures d })) in
    record {
      next = search rules;
      few = search rules;
      own = λ honest. sym boot ∙ ap (λ (s : Node g.row.M-Command.Denot). s.boot) (c.state.ensures.view honest c.in-Ok.ensures.turn.event.was_up);
      turn = subst (λ (b : g.row.M-Command.Denot). IsTurn (machine g cell.ether.setup) g.U.Upstream.tally cell (Ask b) c.in-Ok.output c.turn.new.self.parts) made c.in-Ok.ensures.turn;
    }
