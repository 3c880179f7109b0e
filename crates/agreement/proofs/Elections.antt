-- A vote is counted: a node with a majority leads, and appends the blank entry in the same step.
use Rattle.std.proofs.Common.{◌≡◌, ℕ, Bool}
use Rattle.std.proofs.lemmas.Bool.{cond_both}
use Rattle.raft_log.specs.declared.message.Kind.TheVariants.{Vote}
use Rattle.raft_log.specs.declared.message.Message.{Message}
use Rattle.raft_log.specs.Node.{Node, is_candidate}
use Rattle.raft_node.proofs.ByMessage.{on_vote}
use Rattle.election.specs.Elections as election
use Rattle.agreement.proofs.Ghost.{Ghost, GhostOk, KindOk, NodeOk}
use Rattle.agreement.proofs.Plain.{Moved, stay, then_moved}
use Rattle.agreement.proofs.Counting.{counted_vote_moved}
use Rattle.agreement.proofs.Entries.{forward_moved}

module _ {B : Type 0} where
  pub vote_moved : (blank : B) (n : ℕ) (g : Ghost B) (gok : GhostOk n g) (i : ℕ) (s : Node B) (ok : NodeOk n g i s) (m : Message B) (granted : Bool) → m.to ≡ i → KindOk n g m (Vote granted) → Moved n g i (on_vote blank n s m granted)
  vote_moved blank n g gok i s ok m granted to_me told =
      cond_both (is_candidate s.role) _ s (λ z. Moved n g i z)
      (λ h.
      let one : Moved n g i (election.on_vote n s m.from m.term granted) = counted_vote_moved n g gok i s ok m granted to_me told in
      then_moved n g i _ one.after one.extends one.apart (forward_moved n one.after one.ghost_ok i (election.on_vote n s m.from m.term granted) one.node_ok blank))
      (λ h. stay n g i s gok ok)
