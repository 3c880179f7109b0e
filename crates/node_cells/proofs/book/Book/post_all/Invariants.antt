use Rattle.std.proofs.Common.{◌+◌, ◌≤◌, length}
use Rattle.std.specs.Prelude.{vec_capacity, vec_len}
use Rattle.ether.specs.Passes.{view_of}
use Rattle.raft_node.specs.Hosts.{hosted}
use Rattle.node_cells.proofs.Looping.{Giving, Posting}
use Rattle.node_cells.proofs.book.Book.post_all.Given as goal

abbrev pub invariant-loop-message : goal.invariant-loop-message
invariant-loop-message g l = Posting (hosted g.M.Hosted.blank g.M.Hosted.opened g.M.Hosted.shut g.M.Hosted.heard g.M.Hosted.claim g.M.Hosted.source (g.M.Machine.effects l.fn.self.ether.setup) (g.M.Hosted.next_claim l.fn.self.ether.setup) (g.M.Hosted.playback l.fn.self.ether.setup) g.M.Hosted.class) l.fn.self l.self l.fn.messages.items l.message-iterator.rest.items
    × Giving (view_of l.fn.self.pass) l.fn.messages.items l.message-iterator.rest.items l.replaced.items × (vec_len l.replaced + length l.message-iterator.rest.items ≤ vec_capacity l.replaced)
