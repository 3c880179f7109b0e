-- What a worker reports to its outlet.
use Rattle.std.specs.Prelude.{◌≡◌, ◌↔◌, ◌<◌, ◌≤◌, ◌-◌, ◌&&◌, ◌||◌, ◌++◌, ℕ, length, Bool, true, false, not, nat_eq, nat_lt, List, Option, Some, None}
use Rattle.raft_log.specs.declared.role.Role.{Role}
use Rattle.raft_log.specs.declared.role.Role.TheVariants.{Follower, Candidate, Leader}
use Rattle.raft_log.specs.Positions.{role_of}
use Rattle.raft_node.specs.Parts.{applied_bodies}
use Rattle.raft_node.specs.declared.node_fault.Cause.TheVariants.{Memory as NoMemory}
use Rattle.raft_node.specs.declared.node_fault.NodeFault.{NodeFault}
use Rattle.raft_node.specs.declared.node_fault.NodeFault.TheVariants.{Down}
use Rattle.node_cells.specs.declared.cell_fault.CellFault.{CellFault}
use Rattle.node_cells.specs.declared.cell_fault.CellFault.TheVariants.{Memory, Spent, Node}
use Rattle.node_cells.specs.declared.phase.Phase.{Phase}
use Rattle.node_cells.specs.declared.phase.Phase.TheVariants.{Up, DownInTurn, DownInTurns, DownInRestart}
use Rattle.node_cells.specs.Cells.{CellParts}
use Rattle.node_cells.specs.Causes.{down_in}
use Rattle.node_notes.specs.declared.note.Note.{Note}
use Rattle.node_notes.specs.declared.note.Note.TheVariants as note
use Rattle.node_notes.specs.declared.report.Report.{Report}
use Rattle.node_notes.specs.declared.status.Status.{Status}
use Rattle.node_notes.specs.Notes.{status_of}
use Rattle.node_threads.specs.declared.beats.Beats.{Beats}
use Rattle.node_threads.specs.declared.beats.Beats.TheVariants.{OnNews, WhenTold}
use Rattle.node_threads.specs.declared.worker_loop.Beaten.{Beaten}
use Rattle.node_threads.specs.declared.worker_loop.telling.Told.{Told}
use Rattle.node_threads.specs.declared.worker_loop.telling.TheConstants.{MOST_UNTOLD}
use Rattle.node_threads.specs.declared.job.Job.{Job}
use Rattle.node_threads.specs.declared.job.Job.TheVariants as job

-- the last report, with the current values of what growth of the log alone changes: the last index, how many notes are
-- done, and how often a leader was heard
abbrev pub grown : Told → Told → Told
grown told now =
    record {
      status = record told.status { last = now.status.last };
      progress = record told.progress { done = now.progress.done; contacts = now.progress.contacts };
    }

-- since the last report nothing is new but that the log grew, by entries that are not agreed yet, how often a leader
-- was heard, and that a few notes are done
abbrev pub IsGrownAlone : Told → Told → Type 0
IsGrownAlone told now =
    (now.status.commit < now.status.last) × ((now.progress.done - told.progress.done) ≤ MOST_UNTOLD) × (grown told now ≡ now)

-- and there was a report
abbrev pub HasGrownAlone : Option Told → Told → Type 0
HasGrownAlone None now = ⊥
HasGrownAlone (Some told) now = IsGrownAlone told now

-- whether a note counts as done once the worker did it: all but those of other workers
abbrev pub is_counted : {B L : Type 0} → Note B L → Bool
is_counted (note.Timeout contacts) = true
is_counted note.Beat = true
is_counted (note.Ask body) = true
is_counted note.Opened = true
is_counted note.Closed = true
is_counted (note.Heard at line) = true
is_counted note.Claim = true
is_counted note.Wake = false
is_counted note.Restart = true
is_counted note.End = true

-- whether a note asks the worker to end
abbrev pub is_last : {B L : Type 0} → Note B L → Bool
is_last (note.Timeout contacts) = false
is_last note.Beat = false
is_last (note.Ask body) = false
is_last note.Opened = false
is_last note.Closed = false
is_last (note.Heard at line) = false
is_last note.Claim = false
is_last note.Wake = false
is_last note.Restart = false
is_last note.End = true

module _ {M A L T P S C E : Type 0} where
  -- whether the driver sent this: a job of a caller that waits for its answer is not from the driver
  abbrev pub is_told : Job M A L T P S C E → Bool
  is_told (job.Note note) = is_counted note
  is_told (job.Look place target reply) = false
  is_told (job.Mark reply) = false
  is_told (job.LookAfter number target reply) = false
  is_told (job.Restart reply) = false
  is_told (job.Status reply) = false

  -- whether it asks the worker to end
  abbrev pub is_end : Job M A L T P S C E → Bool
  is_end (job.Note note) = is_last note
  is_end (job.Look place target reply) = false
  is_end (job.Mark reply) = false
  is_end (job.LookAfter number target reply) = false
  is_end (job.Restart reply) = false
  is_end (job.Status reply) = false

  -- whether it is a look that may come too early
  abbrev pub waits : Job M A L T P S C E → Bool
  waits (job.Note note) = false
  waits (job.Look place target reply) = false
  waits (job.Mark reply) = false
  waits (job.LookAfter number target reply) = true
  waits (job.Restart reply) = false
  waits (job.Status reply) = false

-- a cell's fault, as the node's
abbrev pub told_fault : CellFault → NodeFault
told_fault Memory = Down NoMemory
told_fault Spent = Down NoMemory
told_fault (Node fault) = fault

-- whether it is up, if it leads
abbrev pub leads_up : {B L T : Type 0} → Phase B L T → Role → Bool
leads_up Up Leader = true
leads_up Up Follower = false
leads_up Up Candidate = false
leads_up (DownInTurn x copy done) role = false
leads_up (DownInTurns inputs copies answers) role = false
leads_up DownInRestart role = false

module _ {Setup Hosted Store B L T E P U : Type 0} where
  -- the node of a cell leads, and is up
  abbrev pub leads_in : CellParts Setup Hosted Store B L T E P U → Bool
  leads_in c = leads_up c.phase (role_of c.node.state.standing.position)

  -- the state of the node of a cell, and why it is down, if it is; while it is up, the line to be claimed next is given
  -- by what it applied
  pub record IsStatusOf (next_claim : Setup → List (ℕ × B) → Option ℕ) (c : CellParts Setup Hosted Store B L T E P U) (s : Status) : Type 0 where
    pub told : s ≡ status_of c.node.state s.next_claim s.down
    pub up : (s.down ≡ None) ↔ (c.phase ≡ Up)
    pub cause : s.down ≡ down_in c
    pub claim : c.node.down ≡ None → s.next_claim ≡ next_claim c.node.setup (applied_bodies c.node.state)

-- a report of this node with this state and progress, these effects and this fault
pub record IsReport {E : Type 0} (node : ℕ) (told : Told) (effects : List E) (fault : Option NodeFault) (r : Report E) : Type 0 where
  pub node_is : r.node ≡ node
  pub status_is : r.status ≡ told.status
  pub progress_is : r.progress ≡ told.progress
  pub effects_are : r.effects.items ≡ effects
  pub fault_is : r.fault ≡ fault

-- whether workers beat by themselves
abbrev pub is_on_news : Beats → Bool
is_on_news OnNews = true
is_on_news WhenTold = false

-- a leader of this term, with a log up to this last place and this much agreed, has sent nothing since, or a lagging
-- node answered
abbrev pub has_grown : Option Beaten → Bool → ℕ → ℕ → ℕ → Bool
has_grown None is_behind term last commit = true
has_grown (Some beaten) is_behind term last commit =
    not (nat_eq beaten.term term) || (nat_lt beaten.last last || (nat_lt beaten.commit commit || is_behind))

-- and its worker sends by itself, and it leads
abbrev pub is_news : {Setup Hosted Store B L T E P U : Type 0} → Beats → Option Beaten → Bool → CellParts Setup Hosted Store B L T E P U → Bool
is_news beats beaten is_behind c =
    is_on_news beats && (leads_in c && has_grown beaten is_behind c.node.state.standing.term (length c.node.state.log) c.node.state.standing.commit)

-- what a leader had is kept when it has sent, and no answer is known that lags since
pub record HasKept {Setup Hosted Store B L T E P U : Type 0} (c : CellParts Setup Hosted Store B L T E P U) (beaten : Option Beaten) (is_behind : Bool) : Type 0 where
  pub what : beaten ≡ Some (record { term = c.node.state.standing.term; last = length c.node.state.log; commit = c.node.state.standing.commit })
  pub behind : is_behind ≡ false

-- the first part of what was to be reported was, in order, and the rest still is to be
abbrev pub TellsFirst : {E : Type 0} → List E → List E → Type 0
TellsFirst {E} old new = (told : List E) × (old ≡ told ++ new)
