-- Nothing reads what was sent before: each event only adds to it.
use Rattle.std.proofs.Common.{◌≡◌, ℕ, List, ◌++◌, sym, ap, ◌∙◌, append-nil}
use Rattle.raft_log.specs.declared.message.Message.{Message}
use Rattle.raft_log.specs.Node.{Node}
use Rattle.raft_node.specs.Machine.{Machine}
use Rattle.raft_node.specs.Steps.{Turn}
use Rattle.raft_node.specs.Sound.{sent_first}
use Rattle.raft_node.proofs.Unread.{sent_is_not_read}
use Rattle.world_views.specs.Own.{EventOf, own_of, own_state, own_out}
use Rattle.world_views.specs.Openings.{unsent}
use Rattle.world_views.specs.Laws.{SentIsNotRead}

-- a node is what it is without what it sent, after that
pub first_unsent : {B : Type 0} (s : Node B) → sent_first s.sent (unsent s) ≡ s
first_unsent {B} s = ap (λ (l : List (Message B)). record s { sent = l }) (append-nil s.sent)

module _ (M : Machine) where
  pub state_moves : (xs : List (Message M.Body)) (n i : ℕ) (s : Node M.Body) (e : EventOf M) → own_state M n i (sent_first xs s) e ≡ sent_first xs (own_state M n i s e)
  unfolding own_state
  state_moves xs n i s e = ap (λ (t : Turn M). t.node) (sent_is_not_read M n i (own_of M e) s xs)

  pub out_moves : (xs : List (Message M.Body)) (n i : ℕ) (s : Node M.Body) (e : EventOf M) → own_out M n i (sent_first xs s) e ≡ own_out M n i s e
  unfolding own_out
  out_moves xs n i s e = ap (λ (t : Turn M). t.out) (sent_is_not_read M n i (own_of M e) s xs)

  pub not_read : SentIsNotRead M
  not_read xs n i s e = (state_moves xs n i s e, out_moves xs n i s e)

  -- an event adds to what was sent
  pub grows : (n i : ℕ) (s : Node M.Body) (e : EventOf M) → (more : List (Message M.Body)) × ((own_state M n i s e).sent ≡ s.sent ++ more)
  grows n i s e = (
    (own_state M n i (unsent s) e).sent,
    ap (λ (t : Node M.Body). (own_state M n i t e).sent) (sym (first_unsent s)) ∙ ap (λ (t : Node M.Body). t.sent) (state_moves s.sent n i (unsent s) e),
  )
