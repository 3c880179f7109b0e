-- A node with its book, and what holds for it.
use Rattle.std.specs.Prelude.{◌≡◌, ◌⊎◌, ◌+◌, ◌<◌, ◌≤◌, ℕ, suc, true, false, List, [], ◌∷◌, length, Option, Some, None, Result, Ok, Err}
use Rattle.raft_log.specs.declared.node_state.NodeState.{NodeState}
use Rattle.raft_log.specs.Node.{Node, is_leader}
use Rattle.raft_log.specs.Seen.{seen}
use Rattle.raft_node.specs.Machine.{Machine}
use Rattle.raft_node.specs.Parts.{Keeper, Parts, saved_by, size_of}
use Rattle.raft_node.specs.SteppingTogether.{out_of}
use Rattle.recorder.specs.declared.node_line.NodeFields.{NodeFields}
use Rattle.recorder.specs.NodeLines.{fields_of}
use Rattle.stable_store.specs.declared.saved.Saved.{Saved}
use Rattle.world_views.specs.declared.envelope.Envelope.{Envelope}
use Rattle.world_views.specs.declared.node_event.NodeEvent.TheVariants.{Does}
use Rattle.world_views.specs.Inputs.{NodeInput}
use Rattle.world_views.specs.Own.{own_out, own_state}
use Rattle.world_views.specs.Views.{IsAt, View, carries}
use Rattle.ether.specs.declared.pass.Pass.{Pass}
use Rattle.ether.specs.Passes.{EtherParts, view_of}
use Rattle.node_cells.specs.declared.cell_fault.CellFault.{CellFault}
use Rattle.node_cells.specs.declared.cell_fault.CellFault.TheVariants.{Memory, Spent, Node as OfNode}
use Rattle.node_cells.specs.declared.phase.Phase.{Phase}
use Rattle.node_cells.specs.declared.phase.Phase.TheVariants.{Up, DownInTurn, DownInTurns, DownInRestart}
use Rattle.node_cells.specs.declared.record.NodeTurn.{NodeTurn}
use Rattle.node_cells.specs.declared.record.Recording.{Recording}
use Rattle.node_cells.specs.Books.{AreOfBook, BookParts, room_for}
use Rattle.node_cells.specs.Copies.{AreCopies, IsCopy}
use Rattle.node_cells.specs.Inputs.{Answer, OnlyAppend}
use Rattle.node_cells.specs.Sending.{KnowsOneOf}
use Rattle.wire_bytes.specs.Limits.{number_limit}

-- its book, its node and where its lines go; whether the node is up, how many restarts were refused since it was, and
-- the fields of the state that the cell shows
pub record CellParts (Setup Hosted Store B L T E P U : Type 0) : Type 0 where
  pub ether : EtherParts Setup
  pub pass : Pass B L T
  pub recording : Recording
  pub turns : List (NodeTurn B L T E P)
  pub sent : ℕ
  pub node : Parts Setup Hosted Store B
  pub upstream : U
  pub phase : Phase B L T
  pub refused : ℕ
  pub shown : NodeFields

-- a cell, and for how many more turns its record has room
pub record CellRoom (Setup Hosted Store B L T E P U : Type 0) : Type 0 where
  pub parts : CellParts Setup Hosted Store B L T E P U
  pub room : ℕ

module _ {Setup Hosted Store B L T E P U : Type 0} where
  -- what happened to the cell's node, as the ether has it
  abbrev pub view_in : CellParts Setup Hosted Store B L T E P U → View B L T
  view_in c = view_of c.pass

  -- the cell with this book, this node and so on
  abbrev pub cell_of : BookParts Setup B L T E P → Parts Setup Hosted Store B → U → Phase B L T → ℕ → NodeFields → CellParts Setup Hosted Store B L T E P U
  cell_of b node upstream phase refused shown =
      record {
        ether = b.ether;
        pass = b.pass;
        recording = b.recording;
        turns = b.turns;
        sent = b.sent;
        node = node;
        upstream = upstream;
        phase = phase;
        refused = refused;
        shown = shown;
      }

  -- There is room in the record and there are tickets for this many turns, or not; the cell is unchanged.
  abbrev pub HasMadeRoom : ℕ → CellRoom Setup Hosted Store B L T E P U → Result (Unit {0}) CellFault → CellRoom Setup Hosted Store B L T E P U → Type 0
  HasMadeRoom count c (Ok done) d = (d.parts ≡ c.parts) × (room_for c.parts.recording count ≤ d.room) × (length (view_of c.parts.pass).turns + count ≤ number_limit)
  HasMadeRoom count c (Err Memory) d = d.parts ≡ c.parts
  HasMadeRoom count c (Err Spent) d = (d.parts ≡ c.parts) × (number_limit < length (view_of c.parts.pass).turns + count)
  HasMadeRoom count c (Err (OfNode fault)) d = ⊥

module _ {B : Type 0} where
  -- the same was saved, except that up to r runs were begun since
  pub record IsLater (r : ℕ) (old new : Saved B) : Type 0 where
    pub term : new.term ≡ old.term
    pub vote : new.vote ≡ old.vote
    pub log : new.log ≡ old.log
    pub low : old.boot ≤ new.boot
    pub high : new.boot ≤ old.boot + r

  module _ {Store : Type 0} (k : Keeper Store B) where
    -- what a store may hold is this, but for up to r runs that were begun since
    abbrev pub Stands : Store → ℕ → Saved B → Type 0
    Stands store r s = (v : Saved B) → k.may_stand store v → IsLater r s v

    -- it is one or the other
    abbrev pub StandsEither : Store → ℕ → Saved B → Saved B → Type 0
    StandsEither store r s t = (v : Saved B) → k.may_stand store v → IsLater r s v ⊎ IsLater r t v

module _ {B : Type 0} where
  -- the state of the code is that of this node, which sent what it sent
  abbrev pub IsIn : NodeState B → Node B → Type 0
  IsIn state s = seen state s.sent ≡ s

module _ {B L T : Type 0} where
  -- the message of the input in which the node went down
  abbrev pub brought : Phase B L T → Option (Envelope B)
  brought Up = None
  brought (DownInTurn x copy done) = carries x
  brought (DownInTurns inputs copies answers) = None
  brought DownInRestart = None

  -- At least one input was saved together, the node only appends by them, and each has an answer.
  abbrev pub AreTogether : Phase B L T → Type 0
  AreTogether Up = Unit {0}
  AreTogether (DownInTurn x copy done) = Unit {0}
  AreTogether (DownInTurns inputs copies answers) = (1 ≤ length inputs.items) × (length answers.items ≡ length inputs.items) × OnlyAppend inputs.items
  AreTogether DownInRestart = Unit {0}

  -- If turns are recorded, the phase has copies of what the node went down in.
  abbrev pub HasCopies : Recording → Phase B L T → Type 0
  HasCopies recording Up = Unit {0}
  HasCopies recording (DownInTurn x copy done) = IsCopy recording x copy
  HasCopies recording (DownInTurns inputs copies answers) = AreCopies recording inputs.items copies.items
  HasCopies recording DownInRestart = Unit {0}

  -- the message, if there is one, was heard
  abbrev pub HasHeard : View B L T → Option (Envelope B) → Type 0
  HasHeard v o = (m : Envelope B) → o ≡ Some m → (k : ℕ) × IsAt v.heard k m

module _ (M : Machine) where
  -- the state after this input, of the node of this number in a group of this size
  abbrev pub after_input : ℕ → ℕ → Node M.Body → NodeInput M.Body M.Line → Node M.Body
  after_input n i s x = own_state M n i s (Does x)

  -- the state after these inputs, one after the other
  abbrev pub after_inputs : ℕ → ℕ → Node M.Body → List (NodeInput M.Body M.Line) → Node M.Body
  after_inputs n i s [] = s
  after_inputs n i s (x ∷ inputs) = after_inputs n i (after_input n i s x) inputs

  -- These answers say what comes out of the inputs, one after the other. There may be more answers.
  abbrev pub AreAnswered : ℕ → ℕ → Node M.Body → List (NodeInput M.Body M.Line) → List Answer → Type 0
  AreAnswered n i s [] answers = Unit {0}
  AreAnswered n i s (x ∷ inputs) [] = ⊥
  AreAnswered n i s (x ∷ inputs) (a ∷ answers) = (own_out M n i s (Does x) ≡ out_of M a) × AreAnswered n i (after_input n i s x) inputs answers

module _ (M : Machine) {Setup Hosted Store : Type 0} (k : Keeper Store M.Body) where
  -- How a node shows the view's state s. While it is up it is in this state. Once it is down, s is the state from
  -- before the turn, or before the refused restart, in which it went down; its store may hold that, or the result of
  -- the turn, and r restarts were refused since. After turns that were saved together it holds the result of all, or of
  -- none.
  abbrev pub Shows : ℕ → ℕ → Node M.Body → Phase M.Body M.Line M.Target → ℕ → Parts Setup Hosted Store M.Body → Type 0
  Shows n i s Up r q = IsIn q.state s × (q.down ≡ None)
  Shows n i s (DownInTurn x copy false) r q =
      IsIn q.state s × StandsEither k q.store r (saved_by s) (saved_by (after_input M n i s x))
  Shows n i s (DownInTurn x copy true) r q =
      IsIn q.state (after_input M n i s x) × Stands k q.store r (saved_by (after_input M n i s x))
  Shows n i s (DownInTurns inputs copies answers) r q =
      IsIn q.state s × StandsEither k q.store r (saved_by s) (saved_by (after_inputs M n i s inputs.items))
      × (is_leader s.role ≡ true) × AreAnswered M n i s inputs.items answers.items
  Shows n i s DownInRestart r q = IsIn q.state s × Stands k q.store r (saved_by s)

  -- A cell: its book is kept, and its node is that of its pass, with the ether's setup. Over an honest store the node
  -- shows the view's state, as many messages were posted as the view's node sent, and the fields are those of the
  -- view's state.
  pub record IsCell {U : Type 0} (c : CellParts Setup Hosted Store M.Body M.Line M.Target M.Effect M.Played U) : Type 0 where
    pub book : AreOfBook M c.ether c.pass c.recording c.turns c.sent
    pub id : c.node.id ≡ suc c.pass.node
    pub size : size_of c.node.state ≡ c.ether.size
    pub setup : c.node.setup ≡ c.ether.setup
    pub honest : (view_in c).honest ≡ (k.condition c.node.store).honest
    pub leader : KnowsOneOf c.ether.size (seen c.node.state [])
    pub heard : HasHeard (view_in c) (brought c.phase)
    pub together : AreTogether c.phase
    pub copied : HasCopies c.recording c.phase
    pub up : c.phase ≡ Up → c.node.down ≡ None
    pub refused : c.phase ≡ Up → c.refused ≡ 0
    pub counted : (view_in c).honest ≡ true → c.sent ≡ length (view_in c).state.sent
    pub shown : (view_in c).honest ≡ true → c.shown ≡ fields_of (view_in c).state
    pub shows : (view_in c).honest ≡ true → Shows (view_in c).size (suc (view_in c).node) (view_in c).state c.phase c.refused c.node
