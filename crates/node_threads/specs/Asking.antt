-- When a node may ask a request that waits at its worker, and which mailbox it leaves while a request is on its way.
use Rattle.std.specs.Prelude.{◌≡◌, ◌⊎◌, ℕ, suc, Bool, true, false, Option, Some, None, if◌then◌else◌}
use Rattle.raft_log.specs.declared.position.Position.{Position}
use Rattle.raft_log.specs.declared.position.Position.TheVariants.{Follower, Candidate, Leader}
use Rattle.raft_log.specs.Positions.{leader_of}
use Rattle.node_cells.specs.declared.phase.Phase.{Phase}
use Rattle.node_cells.specs.declared.phase.Phase.TheVariants.{Up, DownInTurn, DownInTurns, DownInRestart}
use Rattle.node_cells.specs.Cells.{CellParts}
use Rattle.node_cells.specs.Openings.{HasSeenTo}

module _ {Setup Hosted Store B L T E P U : Type 0} where
  -- One look whether the node of this number took the last message that was posted to it; false, with no look, if there
  -- is no such node.
  abbrev pub HasSeenIf : ℕ → CellParts Setup Hosted Store B L T E P U → Bool → CellParts Setup Hosted Store B L T E P U → Type 0
  HasSeenIf node c taken d = ((to : ℕ) × (node ≡ suc to) × HasSeenTo c to taken d) ⊎ ((taken ≡ false) × (d ≡ c))

  -- A leader may ask; so may a node that knows its leader, which took its last message.
  abbrev pub MayIn : Position → CellParts Setup Hosted Store B L T E P U → Bool → CellParts Setup Hosted Store B L T E P U → Type 0
  MayIn (Follower None) c may d = (may ≡ false) × (d ≡ c)
  MayIn (Follower (Some leader)) c may d = HasSeenIf leader c may d
  MayIn Candidate c may d = (may ≡ false) × (d ≡ c)
  MayIn (Leader live) c may d = (may ≡ true) × (d ≡ c)

  -- only while the node is up
  abbrev pub MayUp : Phase B L T → CellParts Setup Hosted Store B L T E P U → Bool → CellParts Setup Hosted Store B L T E P U → Type 0
  MayUp Up c may d = MayIn c.node.state.standing.position c may d
  MayUp (DownInTurn x copy done) c may d = (may ≡ false) × (d ≡ c)
  MayUp (DownInTurns inputs copies answers) c may d = (may ≡ false) × (d ≡ c)
  MayUp DownInRestart c may d = (may ≡ false) × (d ≡ c)

  -- whether the node may ask
  abbrev pub MayAsk : CellParts Setup Hosted Store B L T E P U → Bool → CellParts Setup Hosted Store B L T E P U → Type 0
  MayAsk c may d = MayUp c.phase c may d

  -- the leader that the node knows
  abbrev pub leader_in : CellParts Setup Hosted Store B L T E P U → Option ℕ
  leader_in c = leader_of c.node.state.standing.position

  -- the term that the node is in
  abbrev pub term_in : CellParts Setup Hosted Store B L T E P U → ℕ
  term_in c = c.node.state.standing.term

  -- One look whether this leader took the request that was last posted to it, if one was: if it did not, its mailbox is
  -- left.
  abbrev pub HasLeft : Option ℕ → CellParts Setup Hosted Store B L T E P U → Option ℕ → CellParts Setup Hosted Store B L T E P U → Type 0
  HasLeft None c left d = (left ≡ None) × (d ≡ c)
  HasLeft (Some leader) c left d = (taken : Bool) × HasSeenIf leader c taken d × (left ≡ (if taken then None else Some leader))
