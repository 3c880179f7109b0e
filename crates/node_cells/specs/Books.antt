-- What a cell keeps besides its node: its pass at the ether, and the record of its turns.
use Rattle.std.specs.Prelude.{◌≡◌, ◌*◌, ◌+◌, ◌<◌, ◌≤◌, ℕ, Bool, true, List, [], ◌∷◌, ◌++◌, length, map, Option}
use Rattle.raft_node.specs.Machine.{Machine}
use Rattle.world_run.specs.declared.outcome.Outcome.{Outcome}
use Rattle.world_run.specs.Told.{out_of}
use Rattle.world_views.specs.declared.node_event.NodeEvent.{NodeEvent}
use Rattle.world_views.specs.Outputs.{outs_of}
use Rattle.world_views.specs.Own.{EventOf, TurnOf, ViewOf, runs}
use Rattle.world_views.specs.Views.{start}
use Rattle.raft_node.specs.Steps.{Out}
use Rattle.ether.specs.declared.pass.Pass.{Pass}
use Rattle.ether.specs.Passes.{EtherParts, IsOpenPass, looks_of, view_of}
use Rattle.ether.specs.Plays.{after_event, after_take}
use Rattle.ether.specs.Rule.{look_at, look_if, mailbox_of}
use Rattle.world_views.specs.declared.envelope.Envelope.{Envelope}
use Rattle.node_cells.specs.declared.cell_fault.CellFault.{CellFault}
use Rattle.node_cells.specs.declared.cell_fault.CellFault.TheVariants.{Memory, Spent, Node as OfNode}
use Rattle.node_cells.specs.declared.record.NodeTurn.{NodeTurn}
use Rattle.node_cells.specs.declared.record.Recording.{Recording}
use Rattle.node_cells.specs.declared.record.Recording.TheVariants.{On, Off}
use Rattle.node_cells.specs.Copies.{IsCopy}
use Rattle.node_cells.specs.Posts.{posts_from}
use Rattle.wire_bytes.specs.Limits.{number_limit}

-- what is recorded of these turns, or of what came out of them
abbrev pub recorded_by : {A : Type 0} → Recording → List A → List A
recorded_by On turns = turns
recorded_by Off turns = []

-- how much room this many turns need in a record
abbrev pub room_for : Recording → ℕ → ℕ
room_for On count = count
room_for Off count = 0

-- its ether and its pass, whether turns are recorded and those that were, how many messages were posted, and for how
-- many more turns there is room
pub record BookParts (Setup B L T E P : Type 0) : Type 0 where
  pub ether : EtherParts Setup
  pub pass : Pass B L T
  pub recording : Recording
  pub turns : List (NodeTurn B L T E P)
  pub sent : ℕ
  pub room : ℕ

module _ (M : Machine) where
  -- a turn of a node that hosts this machine
  abbrev pub NotedOf : Type 0
  NotedOf = NodeTurn M.Body M.Line M.Target M.Effect M.Played

  -- what comes out of a turn of such a node
  abbrev pub OutcomeOf : Type 0
  OutcomeOf = Outcome M.Effect M.Played

  -- the turn of this event at this ticket, with what came out of it
  abbrev pub noted : ℕ → EventOf M → OutcomeOf → NotedOf
  noted t e o = record { ticket = t; event = e; outcome = o }

  -- the turn as a view has it
  abbrev pub turn_in : NotedOf → TurnOf M
  turn_in r = (r.ticket, r.event)

  -- what came out of it
  abbrev pub out_in : NotedOf → Out M
  out_in r = out_of M r.outcome

  -- The record of an opened node: its turns are the view's, and over an honest store each has what comes out of it by
  -- the view.
  pub record IsRecordOf (v : ViewOf M) (turns : List NotedOf) : Type 0 where
    pub turns_are : map turn_in turns ≡ v.turns
    pub outs_are : v.honest ≡ true → map out_in turns ≡ outs_of M v

  -- What is recorded of an opened node: its record if turns are recorded, else nothing.
  abbrev pub IsRecordBy : Recording → ViewOf M → List NotedOf → Type 0
  IsRecordBy On v turns = IsRecordOf v turns
  IsRecordBy Off v turns = turns ≡ []

  module _ {Setup : Type 0} where
    -- The parts of the book of an opened pass: its view's state is what its turns lead to, and what is recorded is the view's.
    pub record AreOfBook (ether : EtherParts Setup) (pass : Pass M.Body M.Line M.Target) (recording : Recording) (turns : List NotedOf) (sent : ℕ) : Type 0 where
      pub opened : IsOpenPass ether pass
      pub state : (view_of pass).state ≡ runs M (view_of pass) (start (view_of pass)) (view_of pass).turns
      pub recorded : IsRecordBy recording (view_of pass) turns
      pub few : sent ≤ 7 * length (view_of pass).turns
      pub small : ether.size ≤ 7

    -- a book with these parts, whatever room it has
    abbrev pub IsBook : BookParts Setup M.Body M.Line M.Target M.Effect M.Played → Type 0
    IsBook b = AreOfBook b.ether b.pass b.recording b.turns b.sent

    -- An event was ticked, and recorded with what came out of it if turns are recorded.
    pub record HasNoted (old : BookParts Setup M.Body M.Line M.Target M.Effect M.Played) (e : EventOf M) (o : OutcomeOf) (new : BookParts Setup M.Body M.Line M.Target M.Effect M.Played) : Type 0 where
      pub ticket : ℕ
      pub view : view_of new.pass ≡ after_event M (view_of old.pass) ticket e
      pub recording : new.recording ≡ old.recording
      pub turns : new.turns ≡ old.turns ++ recorded_by old.recording (noted ticket e o ∷ [])
      pub ether : new.ether ≡ old.ether
      pub node : new.pass.node ≡ old.pass.node
      pub sent : new.sent ≡ old.sent
      pub room : new.room + room_for old.recording 1 ≡ old.room

    -- This many messages were posted, with the next numbers.
    pub record HasPosted (old : BookParts Setup M.Body M.Line M.Target M.Effect M.Played) (count : ℕ) (new : BookParts Setup M.Body M.Line M.Target M.Effect M.Played) : Type 0 where
      pub view : view_of new.pass ≡ posts_from (view_of old.pass) old.sent count
      pub recording : new.recording ≡ old.recording
      pub turns : new.turns ≡ old.turns
      pub ether : new.ether ≡ old.ether
      pub node : new.pass.node ≡ old.pass.node
      pub sent : new.sent ≡ old.sent + count
      pub room : new.room ≡ old.room

module _ {B L T E P : Type 0} where
  -- If turns are recorded, the turn of this ticket was appended to these, with the event and what came out of it, of
  -- which these are copies.
  abbrev pub KeepsTurn : Recording → List (NodeTurn B L T E P) → ℕ → Option (NodeEvent B L T) → Option (Outcome E P) → List (NodeTurn B L T E P) → Type 0
  KeepsTurn recording turns ticket event outcome new =
      (e : NodeEvent B L T) (o : Outcome E P) → IsCopy recording e event → IsCopy recording o outcome → new ≡ turns ++ recorded_by recording (record { ticket = ticket; event = e; outcome = o } ∷ [])

module _ {Setup B L T E P : Type 0} where
  -- the same book, with more or less room
  abbrev pub IsSameBut : BookParts Setup B L T E P → BookParts Setup B L T E P → Type 0
  IsSameBut old new = new ≡ record old { room = new.room }

  -- the same, except for the pass, which is another with the same view
  pub record IsSameBook (old new : BookParts Setup B L T E P) : Type 0 where
    pub view : view_of new.pass ≡ view_of old.pass
    pub looks : looks_of new.pass ≡ looks_of old.pass
    pub recording : new.recording ≡ old.recording
    pub turns : new.turns ≡ old.turns
    pub ether : new.ether ≡ old.ether
    pub node : new.pass.node ≡ old.pass.node
    pub sent : new.sent ≡ old.sent

  -- Room in the record for this many turns, and tickets for them; all else is unchanged. If none is recorded, no room
  -- is made.
  pub record HasRoom (old : BookParts Setup B L T E P) (count : ℕ) (new : BookParts Setup B L T E P) : Type 0 where
    pub room : room_for old.recording count ≤ new.room
    pub none_made : old.recording ≡ Off → new.room ≡ old.room
    pub tickets : length (view_of old.pass).turns + count ≤ number_limit
    pub same : IsSameBut old new

  -- There is none; and memory does not run out if nothing is recorded.
  abbrev pub HasNoRoom : BookParts Setup B L T E P → ℕ → CellFault → BookParts Setup B L T E P → Type 0
  HasNoRoom old count Memory new = IsSameBut old new × (old.recording ≡ On)
  HasNoRoom old count Spent new = IsSameBut old new × (number_limit < length (view_of old.pass).turns + count)
  HasNoRoom old count (OfNode fault) new = ⊥

  -- the message in the mailbox was heard, and the look is kept
  pub record HasTaken (old : BookParts Setup B L T E P) (from : ℕ) (came : Option (Envelope B)) (new : BookParts Setup B L T E P) : Type 0 where
    pub view : view_of new.pass ≡ after_take (view_of old.pass) came
    pub looks : looks_of new.pass ≡ looks_of old.pass ++ look_at (mailbox_of old.ether.size from old.pass.node) came ∷ []
    pub recording : new.recording ≡ old.recording
    pub turns : new.turns ≡ old.turns
    pub ether : new.ether ≡ old.ether
    pub node : new.pass.node ≡ old.pass.node
    pub sent : new.sent ≡ old.sent

  -- a look into its own mailbox to the node at this place, kept if it was empty
  pub record HasSeen (old : BookParts Setup B L T E P) (to : ℕ) (taken : Bool) (new : BookParts Setup B L T E P) : Type 0 where
    pub view : view_of new.pass ≡ view_of old.pass
    pub looks : looks_of new.pass ≡ looks_of old.pass ++ look_if taken (mailbox_of old.ether.size old.pass.node to)
    pub recording : new.recording ≡ old.recording
    pub turns : new.turns ≡ old.turns
    pub ether : new.ether ≡ old.ether
    pub node : new.pass.node ≡ old.pass.node
    pub sent : new.sent ≡ old.sent
