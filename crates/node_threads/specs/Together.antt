-- Inputs that a worker gathers, for its node to process together.
use Rattle.std.specs.Prelude.{◌≡◌, ◌⊎◌, ◌≤◌, Bool, true, false, List, [], ◌∷◌, length, take, drop, Option, Some, None, Result, Ok, Err}
use Rattle.raft_log.specs.Batches.{batch_limit}
use Rattle.raft_node.specs.Machine.{Machine}
use Rattle.world_views.specs.Inputs.{NodeInput}
use Rattle.raft_node.specs.declared.input.Input.TheVariants as input
use Rattle.node_cells.specs.declared.cell_fault.CellFault.{CellFault}
use Rattle.node_cells.specs.Cells.{CellParts}
use Rattle.node_cells.specs.Inputs.{Answer, OnlyAppend}
use Rattle.node_cells.specs.Together.{AreNoTurns, AreTurned}
use Rattle.node_cells.specs.Turns.{CellOf}
use Rattle.node_notes.specs.declared.note.Note.{Note}
use Rattle.node_notes.specs.declared.note.Note.TheVariants as note
use Rattle.node_threads.specs.Reports.{leads_in}
use Rattle.node_threads.specs.Rounds.{GathersAnswers}
use Rattle.node_threads.specs.declared.job.Job.{Job}
use Rattle.node_threads.specs.declared.job.Job.TheVariants as job
use Rattle.node_threads.specs.declared.worker_loop.requests.Request.{Request}
use Rattle.node_threads.specs.declared.worker_loop.round.Round.{Round}

module _ {B L : Type 0} where
  -- the input that a note is for, if a leader only appends by it
  abbrev pub input_in : Note B L → Option (NodeInput B L)
  input_in (note.Timeout contacts) = None
  input_in note.Beat = None
  input_in (note.Ask body) = None
  input_in note.Opened = Some input.Opened
  input_in note.Closed = Some input.Closed
  input_in (note.Heard at line) = Some (input.Heard at line)
  input_in note.Claim = Some input.Claim
  input_in note.Wake = None
  input_in note.Restart = None
  input_in note.End = None

  -- whether a note does nothing with the node: a request waits, and a wake is for the worker
  abbrev pub is_idle_note : Note B L → Bool
  is_idle_note (note.Timeout contacts) = false
  is_idle_note note.Beat = false
  is_idle_note (note.Ask body) = true
  is_idle_note note.Opened = false
  is_idle_note note.Closed = false
  is_idle_note (note.Heard at line) = false
  is_idle_note note.Claim = false
  is_idle_note note.Wake = true
  is_idle_note note.Restart = false
  is_idle_note note.End = false

  -- the requests of these, as inputs
  abbrev pub asks_of : List (Request B) → List (NodeInput B L)
  asks_of [] = []
  asks_of (r ∷ waiting) = input.Ask r.body ∷ asks_of waiting

  -- The first of the requests that wait become inputs, as many as go together, and the rest waits; or, if memory runs
  -- out, all still wait.
  abbrev pub TakesFront : List (Request B) → List (NodeInput B L) → List (Request B) → Type 0
  TakesFront old inputs new = ((inputs ≡ asks_of (take batch_limit old)) × (new ≡ drop batch_limit old)) ⊎ ((inputs ≡ []) × (new ≡ old))

module _ {M A L T P S C E : Type 0} where
  -- the input that a job is for, if a leader only appends by it
  abbrev pub appended : Job M A L T P S C E → Option (NodeInput C L)
  appended (job.Note note) = input_in note
  appended (job.Look place target reply) = None
  appended (job.Mark reply) = None
  appended (job.LookAfter number target reply) = None
  appended (job.Restart reply) = None
  appended (job.Status reply) = None

  -- whether a job does nothing with the node, and asks nothing of it
  abbrev pub is_idle : Job M A L T P S C E → Bool
  is_idle (job.Note note) = is_idle_note note
  is_idle (job.Look place target reply) = false
  is_idle (job.Mark reply) = false
  is_idle (job.LookAfter number target reply) = false
  is_idle (job.Restart reply) = false
  is_idle (job.Status reply) = false

module _ {Setup Hosted Store B L T E P U : Type 0} where
  -- These inputs may be processed together: the node only appends by each, it leads if there is one, and there are not
  -- too many.
  pub record AreReady (inputs : List (NodeInput B L)) (c : CellParts Setup Hosted Store B L T E P U) : Type 0 where
    pub append : OnlyAppend inputs
    pub leads : 1 ≤ length inputs → leads_in c ≡ true
    pub few : length inputs ≤ batch_limit

module _ (M : Machine) {Setup Hosted Store U : Type 0} where
  -- by what inputs that are processed together answer
  abbrev pub HaveTurned : CellOf M Setup Hosted Store U → List (NodeInput M.Body M.Line) → Result (List Answer) CellFault → CellOf M Setup Hosted Store U → Type 0
  HaveTurned c inputs (Ok answers) d = AreTurned M c inputs answers d
  HaveTurned c inputs (Err fault) d = AreNoTurns M c inputs fault d

  -- these inputs were processed together, in order, or none of them was; and nothing else
  pub record HasTurnedTogether (c : CellOf M Setup Hosted Store U) (inputs : List (NodeInput M.Body M.Line)) (d : CellOf M Setup Hosted Store U) : Type 0 where
    pub answer : Result (List Answer) CellFault
    pub turned : HaveTurned c inputs answer d

  -- the same with what was gathered, if anything was
  abbrev pub HasTurnedAll : List (NodeInput M.Body M.Line) → CellOf M Setup Hosted Store U → CellOf M Setup Hosted Store U → Type 0
  HasTurnedAll [] c d = d ≡ c
  HasTurnedAll (x ∷ inputs) c d = HasTurnedTogether c (x ∷ inputs) d

  -- and their answers were gathered
  pub record HasGatheredTogether (c : CellOf M Setup Hosted Store U) (inputs : List (NodeInput M.Body M.Line)) (old : Round M.Effect)
      (d : CellOf M Setup Hosted Store U) (new : Round M.Effect) : Type 0 where
    pub answer : Result (List Answer) CellFault
    pub turned : HaveTurned c inputs answer d
    pub gathers : GathersAnswers answer old new

  -- the same with what was gathered, if anything was
  abbrev pub HasGatheredAll : List (NodeInput M.Body M.Line) → CellOf M Setup Hosted Store U → Round M.Effect → CellOf M Setup Hosted Store U → Round M.Effect → Type 0
  HasGatheredAll [] c old d new = (d ≡ c) × (new ≡ old)
  HasGatheredAll (x ∷ inputs) c old d new = HasGatheredTogether c (x ∷ inputs) old d new
