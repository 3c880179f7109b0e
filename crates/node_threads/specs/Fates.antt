-- What becomes of the requests that a worker gets.
use Rattle.std.specs.Prelude.{◌≡◌, ◌≤◌, ◌+◌, ◌-◌, ◌^◌, ◌&&◌, ℕ, min, nat_eq, not, Bool, true, false, IsPermutation, Option, None, Some, List, [], ◌∷◌, ◌++◌, if◌then◌else◌}
use Rattle.std.specs.List.{AllByRecursion, sum_by}
use Rattle.node_notes.specs.declared.note.Note.{Note}
use Rattle.node_notes.specs.declared.note.Note.TheVariants as note
use Rattle.node_threads.specs.declared.job.Job.{Job}
use Rattle.node_threads.specs.declared.job.Job.TheVariants as job
use Rattle.node_threads.specs.declared.worker_loop.requests.Asked.{Asked}
use Rattle.node_threads.specs.declared.worker_loop.requests.Request.{Request}
use Rattle.node_threads.specs.Reports.{is_end, is_told}
use Rattle.node_threads.specs.Requests.{Queue, request}

module _ {B L : Type 0} where
  -- the request in a note, under this number
  abbrev pub request_in : ℕ → Note B L → List (Request B)
  request_in number (note.Timeout contacts) = []
  request_in number note.Beat = []
  request_in number (note.Ask body) = request number body ∷ []
  request_in number note.Opened = []
  request_in number note.Closed = []
  request_in number (note.Heard at line) = []
  request_in number note.Claim = []
  request_in number note.Wake = []
  request_in number note.Restart = []
  request_in number note.End = []

  -- whether a note asks the node to start again
  abbrev pub restarts : Note B L → Bool
  restarts (note.Timeout contacts) = false
  restarts note.Beat = false
  restarts (note.Ask body) = false
  restarts note.Opened = false
  restarts note.Closed = false
  restarts (note.Heard at line) = false
  restarts note.Claim = false
  restarts note.Wake = false
  restarts note.Restart = true
  restarts note.End = false

module _ {M A L T P S C E : Type 0} where
  -- how many notes are taken up with this job; the end is not taken up
  abbrev pub counted_by : Job M A L T P S C E → ℕ → ℕ
  counted_by j number = if not (is_end j) && is_told j then min (number + 1) (2 ^ 64 - 1) else number

  -- and with these
  abbrev pub counted_by_all : List (Job M A L T P S C E) → ℕ → ℕ
  counted_by_all [] number = number
  counted_by_all (j ∷ js) number = counted_by_all js (counted_by j number)

  abbrev pub request_by : ℕ → Job M A L T P S C E → List (Request C)
  request_by number (job.Note n) = request_in number n
  request_by number (job.Look place target reply) = []
  request_by number (job.Mark reply) = []
  request_by number (job.LookAfter after target reply) = []
  request_by number (job.Restart reply) = []
  request_by number (job.Status reply) = []

  -- the requests in these jobs, in order, each under the number of its note, given how many were taken up before
  abbrev pub requests_by : ℕ → List (Job M A L T P S C E) → List (Request C)
  requests_by number [] = []
  requests_by number (j ∷ js) = request_by (counted_by j number) j ++ requests_by (counted_by j number) js

  -- whether a job asks the node to start again
  abbrev pub is_restart : Job M A L T P S C E → Bool
  is_restart (job.Note n) = restarts n
  is_restart (job.Look place target reply) = false
  is_restart (job.Mark reply) = false
  is_restart (job.LookAfter after target reply) = false
  is_restart (job.Restart reply) = true
  is_restart (job.Status reply) = false

-- 1 if the request of this number is the last that was asked, and may come back, else 0
abbrev pub may_come : ℕ → Option Asked → ℕ
may_come number None = 0
may_come number (Some asked) = if asked.may_return && nat_eq asked.note number then 1 else 0

module _ {B : Type 0} where
  -- how often the request of this number is among these
  abbrev pub times : ℕ → List (Request B) → ℕ
  times number requests = sum_by (λ (r : Request B). if nat_eq r.note number then 1 else 0) requests

  -- Each request that waited, was sent or came back is in exactly one place, as often as it waited, was sent and came
  -- back: it was asked, or ended by a restart, or memory ran out as it came, or it waits. If none came back, ended or
  -- was dropped, they were asked in the order in which they waited and came, and those that still wait are the last.
  -- None came back more often than it was asked, and once more if it was the last that was asked before, and could come
  -- back.
  pub record EachHasOneFate (told asked : List (Request B)) (is_restarted : Bool) (old new : Queue B) : Type 0 where
    pub back : List (Request B)
    pub ended : List (Request B)
    pub lost : List (Request B)
    pub once : IsPermutation (old.waiting ++ (told ++ back)) ((asked ++ (ended ++ lost)) ++ new.waiting)
    pub ended_by_restart : is_restarted ≡ false → ended ≡ []
    pub lost_is_told : AllByRecursion (λ (r : Request B). r.note ≤ new.lost) lost
    pub lost_grows : old.lost ≤ new.lost
    pub back_once : (number : ℕ) → times number back + may_come number new.asked ≤ times number asked + may_come number old.asked
    pub in_order : back ≡ [] → ended ≡ [] → lost ≡ [] → old.waiting ++ told ≡ asked ++ new.waiting

  -- By its number: the number of times that it was asked, ended, dropped and waits is the number of times that it
  -- waited, was sent and came back. And it came back no more often than it was asked, and once more if it was the last
  -- that was asked before, and could come back.
  abbrev pub IsCounted : List (Request B) → List (Request B) → Queue B → Queue B → List (Request B) → List (Request B) → List (Request B) → ℕ → Type 0
  IsCounted told asked old new back ended lost number =
      (times number asked + times number ended + times number lost + times number new.waiting ≡ times number old.waiting + times number told + times number back)
      × (times number back + may_come number new.asked ≤ times number asked + may_come number old.asked)
