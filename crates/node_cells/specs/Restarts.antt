-- What a restart of a cell publishes, and the state after it.
use Rattle.std.specs.Prelude.{◌≡◌, ◌≤◌, ◌||◌, not, ◌+◌, ◌<◌, ℕ, suc, true, false, Bool, List, [], ◌∷◌, ◌++◌, length, map, Result, Ok, Err}
use Rattle.stable_store.specs.declared.saved.Saved.{Saved}
use Rattle.raft_log.specs.Node.{Node}
use Rattle.raft_node.specs.Machine.{Machine}
use Rattle.world_run.specs.declared.outcome.Outcome.{Outcome}
use Rattle.world_run.specs.declared.outcome.Outcome.TheVariants.{Quiet, Refused}
use Rattle.world_views.specs.declared.node_event.NodeEvent.{NodeEvent}
use Rattle.world_views.specs.declared.node_event.NodeEvent.TheVariants.{Does, Restart, StopIn}
use Rattle.world_views.specs.Inputs.{NodeInput}
use Rattle.world_views.specs.Own.{EventOf, TurnOf, ViewOf}
use Rattle.world_views.specs.Views.{Ticketed}
use Rattle.ether.specs.Plays.{after_event}
use Rattle.node_cells.specs.declared.cell_fault.CellFault.{CellFault}
use Rattle.node_cells.specs.declared.cell_fault.CellFault.TheVariants.{Memory, Spent, Node as OfNode}
use Rattle.node_cells.specs.declared.phase.Phase.{Phase}
use Rattle.node_cells.specs.declared.phase.Phase.TheVariants.{Up, DownInTurn, DownInTurns, DownInRestart}
use Rattle.ether.specs.Passes.{view_of}
use Rattle.node_cells.specs.Books.{BookParts, NotedOf, noted, recorded_by, room_for, turn_in}
use Rattle.node_cells.specs.Cells.{AreAnswered, AreTogether, CellParts, view_in}
use Rattle.node_cells.specs.Inputs.{Answer}
use Rattle.node_cells.specs.Sending.{terms_of}
use Rattle.node_cells.specs.Turns.{IsDownAs}
use Rattle.wire_bytes.specs.Limits.{number_limit}

module _ {B : Type 0} where
  -- one state has the term, the vote and the terms of entries of the other
  abbrev pub HasSameTerms : Saved B → Saved B → Type 0
  HasSameTerms s t = (s.term ≡ t.term) × (s.vote ≡ t.vote) × (terms_of s.log ≡ terms_of t.log)

module _ {B L T : Type 0} where
  -- for inputs that were not saved: the node stopped in the first of them, before that was saved; the others never
  -- happened
  abbrev pub stops_before : List (NodeInput B L) → List (NodeEvent B L T × Answer)
  stops_before [] = []
  stops_before (x ∷ inputs) = (StopIn x false, Ok tt) ∷ []

  -- for inputs that were all saved: each but the last was done, and the node stopped in the last, after that was saved
  abbrev pub stops_after : List (NodeInput B L) → List Answer → List (NodeEvent B L T × Answer)
  stops_after [] answers = []
  stops_after (x ∷ inputs) [] = []
  stops_after (x ∷ []) (a ∷ answers) = (StopIn x true, Ok tt) ∷ []
  stops_after (x ∷ y ∷ inputs) (a ∷ answers) = (Does x, a) ∷ stops_after (y ∷ inputs) answers

  -- for inputs that were saved together: all were saved, or, if the store holds what the node had in memory, none
  abbrev pub stops_in : Bool → List (NodeInput B L) → List Answer → List (NodeEvent B L T × Answer)
  stops_in true inputs answers = stops_before inputs
  stops_in false inputs answers = stops_after inputs answers

  -- What a restart publishes first, each event with its answer: that the node was started again, or, if it had gone
  -- down in a turn, that it stopped in that, before or after it was saved. It was saved if its step was done, or if the
  -- store does not hold what the node had in memory.
  abbrev pub firsts_of : Phase B L T → Bool → List (NodeEvent B L T × Answer)
  firsts_of Up same = (Restart, Ok tt) ∷ []
  firsts_of (DownInTurn x copy done) same = (StopIn x (done || not same), Ok tt) ∷ []
  firsts_of (DownInTurns inputs copies answers) same = stops_in same inputs.items answers.items
  firsts_of DownInRestart same = (Restart, Ok tt) ∷ []

  -- this many restarts
  abbrev pub AreRestarts : List (Ticketed B L T) → Type 0
  AreRestarts [] = Unit {0}
  AreRestarts (t ∷ turns) = (t.1 ≡ Restart) × AreRestarts turns

module _ {B L T : Type 0} where
  -- how many events a restart publishes first, at most
  abbrev pub firsts_at_most : Phase B L T → ℕ
  firsts_at_most Up = 1
  firsts_at_most (DownInTurn x copy done) = 1
  firsts_at_most (DownInTurns inputs copies answers) = length inputs.items
  firsts_at_most DownInRestart = 1

  -- no inputs were saved together
  abbrev pub IsAlone : Phase B L T → Type 0
  IsAlone Up = Unit {0}
  IsAlone (DownInTurn x copy done) = Unit {0}
  IsAlone (DownInTurns inputs copies answers) = ⊥
  IsAlone DownInRestart = Unit {0}

  -- a node that is up goes down in a refused restart; one that was down stays so
  abbrev pub fallen : Phase B L T → Phase B L T
  fallen Up = DownInRestart
  fallen (DownInTurn x copy done) = DownInTurn x copy done
  fallen (DownInTurns inputs copies answers) = DownInTurns inputs copies answers
  fallen DownInRestart = DownInRestart

-- an answer as it is in the record
abbrev pub outcome_by : {E P : Type 0} → Answer → Outcome E P
outcome_by (Ok done) = Quiet
outcome_by (Err refusal) = Refused refusal

module _ (M : Machine) where
  -- the view after these turns
  abbrev pub after_turns : ViewOf M → List (TurnOf M) → ViewOf M
  after_turns v [] = v
  after_turns v (t ∷ turns) = after_turns (after_event M v t.0 t.1) turns

  -- if inputs were saved together, these are their answers, from this state on
  abbrev pub TellsAnswers : ℕ → ℕ → Node M.Body → Phase M.Body M.Line M.Target → Type 0
  TellsAnswers n i s Up = Unit {0}
  TellsAnswers n i s (DownInTurn x copy done) = Unit {0}
  TellsAnswers n i s (DownInTurns inputs copies answers) = AreAnswered M n i s inputs.items answers.items
  TellsAnswers n i s DownInRestart = Unit {0}

  -- these turns are of these events, in order, each with its answer
  abbrev pub AreNoted : List (EventOf M × Answer) → List (NotedOf M) → Type 0
  AreNoted [] [] = Unit {0}
  AreNoted [] (t ∷ turns) = ⊥
  AreNoted (e ∷ events) [] = ⊥
  AreNoted (e ∷ events) (t ∷ turns) = (t.event ≡ e.0) × (t.outcome ≡ outcome_by e.1) × AreNoted events turns

  -- a turn with no result
  abbrev pub silent : TurnOf M → NotedOf M
  silent t = noted M t.0 t.1 Quiet

  module _ {Setup Hosted Store U : Type 0} where
    -- A restart: the events that the store shows, and one more Restart for each earlier start that failed after it
    -- saved its run. Nothing is sent or handed out by it.
    pub record IsRestart (c d : CellParts Setup Hosted Store M.Body M.Line M.Target M.Effect M.Played U) : Type 0 where
      pub first : List (NotedOf M)
      pub same : Bool
      pub together : AreTogether c.phase
      pub first_are : AreNoted (firsts_of c.phase same) first
      pub more : List (TurnOf M)
      pub restarts : AreRestarts more
      pub few : length more ≤ c.refused
      pub view : view_in d ≡ after_turns (view_in c) (map (turn_in M) first ++ more)
      pub recording : d.recording ≡ c.recording
      pub turns : d.turns ≡ c.turns ++ recorded_by c.recording (first ++ map silent more)
      pub sent : d.sent ≡ c.sent
      pub ether : d.ether ≡ c.ether
      pub upstream : d.upstream ≡ c.upstream
      pub is_up : d.phase ≡ Up

    -- A refused restart: nothing changes if there is no room; else the node is down, and what the cell shows is
    -- unchanged.
    pub record IsRefusedRestart (c d : CellParts Setup Hosted Store M.Body M.Line M.Target M.Effect M.Played U) : Type 0 where
      pub phase : d.phase ≡ fallen c.phase
      pub refused : d.refused ≡ suc c.refused
      pub same : IsDownAs M c d

    -- a restart that fails: if memory runs out, or turns and refusals pass 2^60, nothing changes; else it is refused
    abbrev pub IsNoRestart : CellParts Setup Hosted Store M.Body M.Line M.Target M.Effect M.Played U → CellFault
        → CellParts Setup Hosted Store M.Body M.Line M.Target M.Effect M.Played U → Type 0
    IsNoRestart c Memory d = d ≡ c
    IsNoRestart c Spent d = (d ≡ c) × (number_limit < length (view_in c).turns + (firsts_at_most c.phase + c.refused))
    IsNoRestart c (OfNode fault) d = IsRefusedRestart c d

    -- by what a restart answers
    abbrev pub HasRestarted : CellParts Setup Hosted Store M.Body M.Line M.Target M.Effect M.Played U → Result (Unit {0}) CellFault
        → CellParts Setup Hosted Store M.Body M.Line M.Target M.Effect M.Played U → Type 0
    HasRestarted c (Ok done) d = IsRestart c d
    HasRestarted c (Err fault) d = IsNoRestart c fault d

  module _ {Setup : Type 0} where
    -- These events were ticked, in order, and recorded with their answers if turns are recorded.
    pub record HasNotedAll (old : BookParts Setup M.Body M.Line M.Target M.Effect M.Played) (events : List (EventOf M × Answer))
        (new : BookParts Setup M.Body M.Line M.Target M.Effect M.Played) : Type 0 where
      pub first : List (NotedOf M)
      pub are : AreNoted events first
      pub view : view_of new.pass ≡ after_turns (view_of old.pass) (map (turn_in M) first)
      pub recording : new.recording ≡ old.recording
      pub turns : new.turns ≡ old.turns ++ recorded_by old.recording first
      pub ether : new.ether ≡ old.ether
      pub node : new.pass.node ≡ old.pass.node
      pub sent : new.sent ≡ old.sent
      pub room : new.room + room_for old.recording (length events) ≡ old.room

    -- This many restarts were ticked, and recorded if turns are recorded.
    pub record HasRestarts (old : BookParts Setup M.Body M.Line M.Target M.Effect M.Played) (count : ℕ)
        (new : BookParts Setup M.Body M.Line M.Target M.Effect M.Played) : Type 0 where
      pub more : List (TurnOf M)
      pub restarts : AreRestarts more
      pub long : length more ≡ count
      pub view : view_of new.pass ≡ after_turns (view_of old.pass) more
      pub recording : new.recording ≡ old.recording
      pub turns : new.turns ≡ old.turns ++ recorded_by old.recording (map silent more)
      pub ether : new.ether ≡ old.ether
      pub node : new.pass.node ≡ old.pass.node
      pub sent : new.sent ≡ old.sent
