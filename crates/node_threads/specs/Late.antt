-- A worker whose node is not open yet: what it reports, and what it does with its jobs.
use Rattle.std.specs.Prelude.{◌≡◌, length, Bool, true, false, None, Some}
use Rattle.raft_log.specs.declared.role.Role.TheVariants.{Follower}
use Rattle.raft_node.specs.declared.node_fault.Cause.{Cause}
use Rattle.raft_node.specs.declared.node_fault.NodeFault.TheVariants.{Down}
use Rattle.raft_node.specs.Parts.{Keeper}
use Rattle.node_cells.specs.Unopened.{UnopenedParts}
use Rattle.node_notes.specs.declared.note.Note.{Note}
use Rattle.node_notes.specs.declared.note.Note.TheVariants as note
use Rattle.node_notes.specs.declared.status.Status.{Status}
use Rattle.node_threads.specs.declared.inflow.Next.{Next}
use Rattle.node_threads.specs.declared.inflow.Next.TheVariants as next
use Rattle.node_threads.specs.declared.job.Job.{Job}
use Rattle.node_threads.specs.declared.job.Job.TheVariants as job
use Rattle.node_threads.specs.declared.place.Place.{Place}
use Rattle.node_threads.specs.declared.place.Place.TheVariants.{Open, Late}
use Rattle.node_threads.specs.declared.worker_loop.WorkerLoop.{WorkerLoop}
use Rattle.node_threads.specs.declared.worker_loop.late.DownStep.{DownStep}
use Rattle.node_threads.specs.declared.worker_loop.late.DownStep.TheVariants.{Over, Stay, Restart}
use Rattle.node_threads.specs.declared.worker_loop.round.Round.{Round}
use Rattle.node_threads.specs.declared.worker_loop.telling.Told.{Told}
use Rattle.node_threads.specs.Places.{WasOpenedLate}
use Rattle.node_threads.specs.Reports.{is_end, is_told}
use Rattle.node_threads.specs.Rounds.{with_fault}
use Rattle.node_threads.specs.Waiting.{Account, HeedsJob, counted}

-- the state of a node that is down for this cause because its store is not there: it has no run yet
abbrev pub status_down : Cause → Status
status_down cause =
    record { role = Follower; boot = 0; term = 0; last = 0; commit = 0; applied = 0; session = None; next_claim = None; down = Some cause }

module _ {M G O A L T P S C E : Type 0} where
  -- this state, and how far its worker is
  abbrev pub told_down : Cause → WorkerLoop M G O A L T P S C E → Told
  told_down cause w =
      record {
        status = status_down cause;
        progress = record { done = w.done; waiting = length w.requests.waiting.items; lost = w.requests.lost; contacts = w.contacts };
      }

  -- this is reported of it
  abbrev pub StandsDown : Cause → WorkerLoop M G O A L T P S C E → Told → Type 0
  StandsDown cause w now = now ≡ told_down cause w

-- the node stays down
abbrev pub IsStay : DownStep → Type 0
IsStay Over = ⊥
IsStay Stay = Unit {0}
IsStay (Restart reply) = ⊥

-- it is to be started again
abbrev pub IsRestart : DownStep → Type 0
IsRestart Over = ⊥
IsRestart Stay = ⊥
IsRestart (Restart reply) = Unit {0}

-- the worker ends
abbrev pub IsOver : DownStep → Type 0
IsOver Over = Unit {0}
IsOver Stay = ⊥
IsOver (Restart reply) = ⊥

module _ {B L : Type 0} where
  -- the note for a restart tries one, and no other note does
  abbrev pub IsStepOfNote : Note B L → DownStep → Type 0
  IsStepOfNote (note.Timeout contacts) step = IsStay step
  IsStepOfNote note.Beat step = IsStay step
  IsStepOfNote (note.Ask body) step = IsStay step
  IsStepOfNote note.Opened step = IsStay step
  IsStepOfNote note.Closed step = IsStay step
  IsStepOfNote (note.Heard at line) step = IsStay step
  IsStepOfNote note.Claim step = IsStay step
  IsStepOfNote note.Wake step = IsStay step
  IsStepOfNote note.Restart step = IsRestart step
  IsStepOfNote note.End step = IsStay step

  -- what would be a turn of the node fails
  abbrev pub after_note : {E : Type 0} → Note B L → Cause → Round E → Round E
  after_note (note.Timeout contacts) cause r = with_fault (Down cause) r
  after_note note.Beat cause r = with_fault (Down cause) r
  after_note (note.Ask body) cause r = r
  after_note note.Opened cause r = with_fault (Down cause) r
  after_note note.Closed cause r = with_fault (Down cause) r
  after_note (note.Heard at line) cause r = with_fault (Down cause) r
  after_note note.Claim cause r = with_fault (Down cause) r
  after_note note.Wake cause r = r
  after_note note.Restart cause r = r
  after_note note.End cause r = r

module _ {M A L T P S C E : Type 0} where
  -- the same for jobs
  abbrev pub IsStepOf : Job M A L T P S C E → DownStep → Type 0
  IsStepOf (job.Note note) step = IsStepOfNote note step
  IsStepOf (job.Look place target reply) step = IsStay step
  IsStepOf (job.Mark reply) step = IsStay step
  IsStepOf (job.LookAfter number target reply) step = IsStay step
  IsStepOf (job.Restart reply) step = IsRestart step
  IsStepOf (job.Status reply) step = IsStay step

  abbrev pub after_down : Job M A L T P S C E → Cause → Round E → Round E
  after_down (job.Note note) cause r = after_note note cause r
  after_down (job.Look place target reply) cause r = r
  after_down (job.Mark reply) cause r = r
  after_down (job.LookAfter number target reply) cause r = r
  after_down (job.Restart reply) cause r = r
  after_down (job.Status reply) cause r = r

  -- a job was taken up as at a node that is down; the end is not taken up
  abbrev pub TakesDown : Bool → Job M A L T P S C E → Account C → DownStep → Account C → Type 0
  TakesDown true j a step b = IsOver step × (b ≡ a)
  TakesDown false j a step b = IsStepOf j step × HeedsJob j (counted (is_told j) a) b

  -- by what an inbox gave
  abbrev pub TakesNext : Next (Job M A L T P S C E) → Account C → DownStep → Account C → Type 0
  TakesNext (next.Job j) a step b = TakesDown (is_end j) j a step b
  TakesNext next.Nothing a step b = IsStay step × (b ≡ a)
  TakesNext next.Over a step b = IsOver step × (b ≡ a)

  -- the inbox, which might wait or not, gave one thing, which was taken up in this way
  pub record HasTakenDown {I : Type 0} (gives : I → Bool → Next (Job M A L T P S C E) → I → Type 0) (may_wait : Bool) (i : I) (a : Account C) (step : DownStep) (k : I) (b : Account C) : Type 0 where
    pub came : Next (Job M A L T P S C E)
    pub given : gives i may_wait came k
    pub takes : TakesNext came a step b

module _ {Hosted Store U O A L T P Setup B E : Type 0} (k : Keeper Store B) (gives : O → Store → Type 0) where
  -- the node was opened over a store that its opener gave, or nothing happened to it
  abbrev pub HasWaited : UnopenedParts Setup B L T U → O → Place Hosted Store U O A L T P Setup B E → Type 0
  HasWaited u opener (Open c) = WasOpenedLate k gives u opener c.parts
  HasWaited u opener (Late v left) = v ≡ u
