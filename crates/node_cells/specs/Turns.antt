-- What a turn of a cell, a look and the other calls answer, and the state after them.
use Rattle.std.specs.Prelude.{Option, None, Some, ◌≡◌, ◌⊎◌, ◌+◌, ◌<◌, ◌≤◌, ℕ, suc, Bool, true, List, [], ◌∷◌, ◌++◌, drop, length, map, Result, Ok, Err}
use Rattle.raft_node.specs.declared.node_fault.Cause.TheVariants.{Memory as NoMemory}
use Rattle.raft_node.specs.declared.node_fault.NodeFault.TheVariants.{Down, Refused as Declined}
use Rattle.raft_node.specs.Machine.{Machine}
use Rattle.raft_node.specs.declared.input.Looked.{Looked as PlayedAt}
use Rattle.raft_node.specs.Steps.{effects_of}
use Rattle.raft_node.specs.Steps as steps
use Rattle.raft_node.specs.Stepping.{given}
use Rattle.world_run.specs.declared.outcome.Outcome.{Outcome}
use Rattle.world_run.specs.declared.outcome.Outcome.TheVariants.{Quiet, Left, Looked, Refused, Missing}
use Rattle.world_run.specs.Told.{out_of}
use Rattle.world_run.specs.World.{hands}
use Rattle.world_views.specs.declared.node_event.NodeEvent.TheVariants.{Does, Look}
use Rattle.world_views.specs.Inputs.{NodeInput}
use Rattle.raft_node.specs.declared.input.Input.TheVariants.{Deliver}
use Rattle.world_views.specs.Own.{EventOf, own_out}
use Rattle.ether.specs.Plays.{after_event}
use Rattle.node_cells.specs.declared.cell_fault.CellFault.{CellFault}
use Rattle.node_cells.specs.declared.cell_fault.CellFault.TheVariants.{Memory, Spent, Node as OfNode}
use Rattle.node_cells.specs.declared.phase.Phase.TheVariants.{Up, DownInTurn}
use Rattle.node_cells.specs.declared.record.TurnOutput.{TurnOutput}
use Rattle.world_views.specs.declared.envelope.Envelope.{Envelope}
use Rattle.node_cells.specs.Openings.{HasTakenIn}
use Rattle.node_cells.specs.Books.{OutcomeOf, noted, recorded_by}
use Rattle.node_cells.specs.Cells.{CellParts, view_in}
use Rattle.node_cells.specs.Posts.{GaveBack, posts_from}
use Rattle.node_cells.specs.Sending.{to_of}
use Rattle.node_cells.specs.Upstreams.{HandsOut, Tally}
use Rattle.wire_bytes.specs.Limits.{number_limit}

module _ {E P : Type 0} where
  -- if a place was applied, it and its effects come out, else nothing
  abbrev pub IsGiven : ℕ → List E → Outcome E P → Type 0
  IsGiven place effects Quiet = place ≡ 0
  IsGiven place effects (Left p left) = (p ≡ place) × (0 < place) × (left.items ≡ effects)
  IsGiven place effects (Looked p lines) = ⊥
  IsGiven place effects (Refused refusal) = ⊥
  IsGiven place effects Missing = ⊥

  -- these lines come out, played up to this place
  abbrev pub IsPlayed : ℕ → List P → Outcome E P → Type 0
  IsPlayed place lines Quiet = ⊥
  IsPlayed place lines (Left p left) = ⊥
  IsPlayed place lines (Looked p played) = (p ≡ place) × (played.items ≡ lines)
  IsPlayed place lines (Refused refusal) = ⊥
  IsPlayed place lines Missing = ⊥

-- a cell of a node that hosts this machine
abbrev pub CellOf : Machine → Type 0 → Type 0 → Type 0 → Type 0 → Type 0
CellOf M Setup Hosted Store U = CellParts Setup Hosted Store M.Body M.Line M.Target M.Effect M.Played U

module _ (M : Machine) {Setup Hosted Store U : Type 0} where
  -- the node went down, and all that the cell shows is unchanged
  pub record IsDownAs (c d : CellOf M Setup Hosted Store U) : Type 0 where
    pub ether : d.ether ≡ c.ether
    pub pass : d.pass ≡ c.pass
    pub recording : d.recording ≡ c.recording
    pub turns : d.turns ≡ c.turns
    pub sent : d.sent ≡ c.sent
    pub upstream : d.upstream ≡ c.upstream
    pub shown : d.shown ≡ c.shown

  -- a node that was up went down in this turn
  pub record FallsInTurn (c : CellOf M Setup Hosted Store U) (x : NodeInput M.Body M.Line) (d : CellOf M Setup Hosted Store U) : Type 0 where
    pub was_up : c.phase ≡ Up
    pub copy : Option (NodeInput M.Body M.Line)
    pub done : Bool
    pub phase : d.phase ≡ DownInTurn x copy done
    pub refused : d.refused ≡ c.refused
    pub same : IsDownAs c d

  -- the node was down, and the cell is unchanged
  abbrev pub WasDown : CellOf M Setup Hosted Store U → CellOf M Setup Hosted Store U → Type 0
  WasDown c d = (c.phase ≡ Up → ⊥) × (d ≡ c)

  module _ (tally : U → Tally) where
    -- One event at the cell's own view: it drew a ticket, what comes out of it by the view is recorded with it, if
    -- turns are recorded, the messages that it sent were posted, each once, with their numbers, and one line was handed
    -- out for each hand among its effects. The node was up, and is.
    pub record IsEvent (c : CellOf M Setup Hosted Store U) (e : EventOf M) (o : OutcomeOf M) (d : CellOf M Setup Hosted Store U) : Type 0 where
      pub ticket : ℕ
      pub count : ℕ
      pub view : view_in d ≡ posts_from (after_event M (view_in c) ticket e) c.sent count
      pub sent : d.sent ≡ c.sent + count
      pub all_sent : (view_in c).honest ≡ true → (c.sent ≡ length (view_in c).state.sent) × (d.sent ≡ length (view_in d).state.sent)
      pub recording : d.recording ≡ c.recording
      pub turns : d.turns ≡ c.turns ++ recorded_by c.recording (noted M ticket e o ∷ [])
      pub out : (view_in c).honest ≡ true → out_of M o ≡ own_out M (view_in c).size (suc (view_in c).node) (view_in c).state e
      pub handed : HandsOut (hands M (effects_of (out_of M o))) (tally c.upstream) (tally d.upstream)
      pub ether : d.ether ≡ c.ether
      pub was_up : c.phase ≡ Up
      pub is_up : d.phase ≡ Up

    -- what a turn gives: the place that was applied with its effects, as they are recorded, to whom it posted, and what
    -- the posts gave back
    pub record IsTurn (c : CellOf M Setup Hosted Store U) (x : NodeInput M.Body M.Line) (output : TurnOutput M.Body M.Effect) (d : CellOf M Setup Hosted Store U) : Type 0 where
      pub outcome : OutcomeOf M
      pub event : IsEvent c (Does x) outcome d
      pub gives : out_of M outcome ≡ given output.place output.effects.items
      pub posts : (view_in c).honest ≡ true → output.posted_to.items ≡ map to_of (drop (length (view_in c).state.sent) (view_in d).state.sent)
      pub replaced : GaveBack (view_in d) output.posted_to.items output.replaced.items

    -- A turn that gives nothing. If there is no room, or no more tickets, nothing changes; a refusal is an event; else
    -- the node is down.
    abbrev pub IsNoTurn : CellOf M Setup Hosted Store U → NodeInput M.Body M.Line → CellFault → CellOf M Setup Hosted Store U → Type 0
    IsNoTurn c x Memory d = d ≡ c
    IsNoTurn c x Spent d = (d ≡ c) × (number_limit ≤ length (view_in c).turns)
    IsNoTurn c x (OfNode (Declined refusal)) d = IsEvent c (Does x) (Refused refusal) d
    IsNoTurn c x (OfNode (Down cause)) d = FallsInTurn c x d ⊎ WasDown c d

    -- by what a turn answers
    abbrev pub HasTurned : CellOf M Setup Hosted Store U → NodeInput M.Body M.Line → Result (TurnOutput M.Body M.Effect) CellFault → CellOf M Setup Hosted Store U → Type 0
    HasTurned c x (Ok output) d = IsTurn c x output d
    HasTurned c x (Err fault) d = IsNoTurn c x fault d

    -- what a look gives: the place and the lines that came out, from this place on
    pub record IsLookedAt (c : CellOf M Setup Hosted Store U) (from_place : ℕ) (target : M.Target) (looked : PlayedAt M.Played) (d : CellOf M Setup Hosted Store U) : Type 0 where
      pub outcome : OutcomeOf M
      pub event : IsEvent c (Look from_place target) outcome d
      pub gives : out_of M outcome ≡ steps.Looked looked.place looked.lines.items
      pub late : from_place ≤ looked.place
      pub applied : (view_in c).honest ≡ true → looked.place ≡ (view_in c).state.applied

    -- A look that gives nothing. If room or memory runs out nothing changes; Behind is an event.
    abbrev pub IsNoLook : CellOf M Setup Hosted Store U → ℕ → M.Target → CellFault → CellOf M Setup Hosted Store U → Type 0
    IsNoLook c from_place target Memory d = d ≡ c
    IsNoLook c from_place target Spent d = (d ≡ c) × (number_limit ≤ length (view_in c).turns)
    IsNoLook c from_place target (OfNode (Declined refusal)) d = IsEvent c (Look from_place target) (Refused refusal) d
    IsNoLook c from_place target (OfNode (Down cause)) d = (d ≡ c) × ((c.phase ≡ Up) → cause ≡ NoMemory)

    -- by what a look answers
    abbrev pub HasLooked : CellOf M Setup Hosted Store U → ℕ → M.Target → Result (PlayedAt M.Played) CellFault → CellOf M Setup Hosted Store U → Type 0
    HasLooked c from_place target (Ok looked) d = IsLookedAt c from_place target looked d
    HasLooked c from_place target (Err fault) d = IsNoLook c from_place target fault d

    -- the message in a mailbox was processed, if there was one
    abbrev pub HasHeardIn : CellOf M Setup Hosted Store U → Option (Envelope M.Body) → Result (Option (TurnOutput M.Body M.Effect)) CellFault → CellOf M Setup Hosted Store U → Type 0
    HasHeardIn c None (Ok None) d = d ≡ c
    HasHeardIn c None (Ok (Some output)) d = ⊥
    HasHeardIn c None (Err fault) d = ⊥
    HasHeardIn c (Some e) (Ok None) d = ⊥
    HasHeardIn c (Some e) (Ok (Some output)) d = IsTurn c (Deliver e) output d
    HasHeardIn c (Some e) (Err fault) d = IsNoTurn c (Deliver e) fault d

    -- One look into a mailbox, and a turn of its message.
    pub record HasDelivered (c : CellOf M Setup Hosted Store U) (from : ℕ) (result : Result (Option (TurnOutput M.Body M.Effect)) CellFault) (d : CellOf M Setup Hosted Store U) : Type 0 where
      pub came : Option (Envelope M.Body)
      pub between : CellOf M Setup Hosted Store U
      pub taken : HasTakenIn c from came between
      pub turned : HasHeardIn between came result d
