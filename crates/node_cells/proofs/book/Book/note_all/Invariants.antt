use Rattle.raft_node.specs.Hosts.{hosted}
use Rattle.node_cells.specs.Copies.{AreCopies}
use Rattle.node_cells.proofs.Noting.{Noting}
use Rattle.node_cells.proofs.book.Book.note_all.Given as goal

abbrev pub invariant-loop-input : goal.invariant-loop-input
invariant-loop-input g l =
    AreCopies l.self.recording l.input-iterator.rest.items l.copies.rest.items
    × Noting (hosted g.M.Hosted.blank g.M.Hosted.opened g.M.Hosted.shut g.M.Hosted.heard g.M.Hosted.claim g.M.Hosted.source (g.M.Machine.effects l.fn.self.ether.setup)
    (g.M.Hosted.next_claim l.fn.self.ether.setup) (g.M.Hosted.playback l.fn.self.ether.setup) g.M.Hosted.class) l.fn.self l.self l.fn.inputs.items l.input-iterator.rest.items l.fn.answers l.done
