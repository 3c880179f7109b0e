-- What a node keeps by its own steps alone, whatever it hears.
use Rattle.std.specs.Prelude.{◌≡◌, ◌≤◌, ℕ, suc, List, [], ◌∷◌, ◌++◌, length, take, Some}
use Rattle.raft_log.specs.declared.message.Message.{Message}
use Rattle.raft_log.specs.declared.role.Role.TheVariants.{Follower, Leader}
use Rattle.raft_log.specs.declared.node_state.Live.{Live}
use Rattle.raft_log.specs.Node.{Node}
use Rattle.raft_log.specs.Steps.{PlacesWithin}
use Rattle.raft_node.specs.Raft.{newborn}
use Rattle.raft_node.specs.Machine.{Machine}
use Rattle.raft_node.specs.Steps.{Act, Own, turn, own}

module _ {B : Type 0} where
  -- a live session is of a leader, of the term in which it leads, and of an attempt that it made
  abbrev pub LeadsItsSession : Node B → Type 0
  LeadsItsSession s = (live : Live) → s.live ≡ Some live → (s.role ≡ Leader) × (live.id.0 ≡ s.term) × (live.id.1 ≤ s.attempts)

  -- only a follower knows who leads
  abbrev pub FollowsItsLeader : Node B → Type 0
  FollowsItsLeader s = (leader : ℕ) → s.leader ≡ Some leader → s.role ≡ Follower

  -- the lists by node are of the group's size
  abbrev pub HasSize : ℕ → Node B → Type 0
  HasSize size s = (length s.voters ≡ size) × (length s.next ≡ size) × (length s.matched ≡ size)

  -- all of this; what was applied is committed, and the places that the node keeps are within its log
  abbrev pub IsSound : ℕ → Node B → Type 0
  IsSound size s =
      (s.applied ≤ s.commit) × PlacesWithin (length s.log) s.role s.commit s.next s.matched
      × LeadsItsSession s × FollowsItsLeader s × HasSize size s

  -- each of these messages is from this node
  abbrev pub AreFrom : ℕ → List (Message B) → Type 0
  AreFrom i [] = Unit {0}
  AreFrom i (m ∷ messages) = (m.from ≡ i) × AreFrom i messages

  -- the same node, which had sent these messages before all others
  abbrev pub sent_first : List (Message B) → Node B → Node B
  sent_first messages s = record s { sent = messages ++ s.sent }

-- a node begins like this
abbrev pub BeginsSound : Type 0 → Type 0
BeginsSound B = (size : ℕ) → IsSound {B = B} size (newborn size)

module _ (M : Machine) where
  -- and whatever happens to it keeps that
  abbrev pub StaysSound : Type 0
  StaysSound = (size i : ℕ) (o : Own M) (s : Node M.Body) → IsSound size s → IsSound size (own M size i o s).node

  -- in a turn the bodies that were applied stay, and at most one more is applied
  abbrev pub TurnKeepsApplied : Type 0
  TurnKeepsApplied =
      (size i : ℕ) (a : Act M) (s : Node M.Body) → IsSound size s →
      (take s.applied (turn M size i a s).node.log ≡ take s.applied s.log)
      × (s.applied ≤ (turn M size i a s).node.applied) × ((turn M size i a s).node.applied ≤ suc s.applied)

  -- what a node sent stays at its number, restarts included, and what it sends names it
  abbrev pub SentGrows : Type 0
  SentGrows =
      (size i : ℕ) (o : Own M) (s : Node M.Body) →
      (more : List (Message M.Body)) × ((own M size i o s).node.sent ≡ s.sent ++ more) × AreFrom i more

  -- nothing reads what was sent: the result of an event is the same whatever was sent before
  abbrev pub SentIsNotRead : Type 0
  SentIsNotRead =
      (size i : ℕ) (o : Own M) (s : Node M.Body) (messages : List (Message M.Body)) →
      own M size i o (sent_first messages s)
      ≡ record { node = sent_first messages (own M size i o s).node; out = (own M size i o s).out }
