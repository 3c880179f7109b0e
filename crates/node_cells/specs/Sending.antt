-- What a node sends by a step, and what of its state is remembered while it is down.
use Rattle.std.specs.Prelude.{◌≡◌, ◌≤◌, ℕ, suc, List, [], ◌∷◌, map, Some}
use Rattle.raft_log.specs.declared.entry.Entry.{Entry}
use Rattle.raft_log.specs.declared.message.Message.{Message}
use Rattle.raft_log.specs.Lists.{item}
use Rattle.raft_log.specs.Node.{Node}

module _ {B : Type 0} where
  -- these messages are from this node, to nodes of a group of this size
  abbrev pub AreWithin : ℕ → ℕ → List (Message B) → Type 0
  AreWithin i size [] = Unit {0}
  AreWithin i size (m ∷ messages) = (m.from ≡ i) × (1 ≤ m.to) × (m.to ≤ size) × AreWithin i size messages

  -- these messages are in what was sent, after the first n
  abbrev pub StandFrom : List (Message B) → ℕ → List (Message B) → Type 0
  StandFrom sent n [] = Unit {0}
  StandFrom sent n (m ∷ messages) = (item sent (suc n) ≡ Some m) × StandFrom sent (suc n) messages

  -- the receiver of a message
  abbrev pub to_of : Message B → ℕ
  to_of m = m.to

  -- a leader that the node knows is one of the group
  abbrev pub KnowsOneOf : ℕ → Node B → Type 0
  KnowsOneOf size s = (leader : ℕ) → s.leader ≡ Some leader → (1 ≤ leader) × (leader ≤ size)

  -- the terms of entries
  abbrev pub terms_of : List (Entry B) → List ℕ
  terms_of log = map (λ e. e.term) log
