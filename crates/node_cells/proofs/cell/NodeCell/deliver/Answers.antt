use Rattle.std.proofs.Common.{Some, subst}
use Rattle.raft_node.specs.Hosts.{hosted}
use Rattle.raft_node.specs.Machine.{Machine}
use Rattle.raft_node.specs.declared.input.Input.TheVariants.{Deliver}
use Rattle.ether.specs.Passes.{EtherParts}
use Rattle.ether.proofs.Heard.{heard_last}
use Rattle.node_cells.specs.Turns.{IsNoTurn, IsTurn}
use Rattle.node_cells.proofs.cell.NodeCell.deliver.Given as given
use Rattle.node_cells.proofs.cell.NodeCell.deliver.Goals as goal

abbrev machine : (g : given.Over) → g.row.M-Setup.Denot → Machine
machine g s =
    hosted g.M.Hosted.blank g.M.Hosted.opened g.M.Hosted.shut g.M.Hosted.heard g.M.Hosted.claim g.M.Hosted.source (g.M.Machine.effects s)
    (g.M.Hosted.next_claim s) (g.M.Hosted.playback s) g.M.Hosted.class

pub turn-requires : goal.turn-requires
turn-requires g c = record { heard = heard_last _ _ c.in-Some.envelope c.in-Some.ensures.taken.view }

pub returns-in-Ok : goal.returns-in-Ok
returns-in-Ok g c =
    let taken = c.in-Some.ensures.taken in
    record {
      came = Some c.in-Some.envelope;
      between = c.take.new.self.parts;
      taken = taken;
      turned = subst (λ (e : EtherParts g.row.M-Setup.Denot). IsTurn (machine g e.setup) g.U.Upstream.tally c.take.new.self.parts (Deliver c.in-Some.envelope) c.in-Ok.output c.turn.new.self.parts) taken.same.ether c.in-Ok.ensures.turn;
    }

pub returns-in-Err : goal.returns-in-Err
returns-in-Err g c =
    let taken = c.in-Some.ensures.taken in
    record {
      came = Some c.in-Some.envelope;
      between = c.take.new.self.parts;
      taken = taken;
      turned = subst (λ (e : EtherParts g.row.M-Setup.Denot). IsNoTurn (machine g e.setup) g.U.Upstream.tally c.take.new.self.parts (Deliver c.in-Some.envelope) c.in-Err.fault c.turn.new.self.parts) taken.same.ether c.in-Err.ensures.turn;
    }
