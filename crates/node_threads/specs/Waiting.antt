-- How the requests that wait at a worker change while it works.
use Rattle.std.specs.Prelude.{◌≡◌, ◌⊎◌, ◌≤◌, ◌+◌, ◌-◌, ◌^◌, ◌&&◌, ℕ, min, nat_eq, Bool, true, false, List, [], ◌∷◌, ◌++◌, drop, take, Option, None, Some, if◌then◌else◌}
use Rattle.raft_log.specs.Batches.{batch_limit}
use Rattle.raft_log.specs.declared.message.Kind.{Kind}
use Rattle.raft_log.specs.declared.message.Kind.TheVariants.{RequestVote, Vote, Append, AppendReply, Forward}
use Rattle.raft_log.specs.declared.message.Message.{Message}
use Rattle.world_views.specs.declared.envelope.Envelope.{Envelope}
use Rattle.node_notes.specs.declared.note.Note.{Note}
use Rattle.node_notes.specs.declared.note.Note.TheVariants as note
use Rattle.node_threads.specs.declared.job.Job.{Job}
use Rattle.node_threads.specs.declared.job.Job.TheVariants as job
use Rattle.node_threads.specs.declared.worker_loop.WorkerLoop.{WorkerLoop}
use Rattle.node_threads.specs.declared.worker_loop.requests.Asked.{Asked}
use Rattle.node_threads.specs.declared.worker_loop.requests.Request.{Request}
use Rattle.node_threads.specs.Reports.{is_end, is_told}
use Rattle.node_threads.specs.Requests.{HasAsked, Queue, WaitsOrIsLost, at_rest, behind, ended, in_front, last_asked, note_in, queue_of, request, settled}

-- how many notes a worker has taken up, and the requests that wait at it
pub record Account (B : Type 0) : Type 0 where
  pub done : ℕ
  pub requests : Queue B

-- whether this is the node's leader, if it knows one
abbrev pub is_leader_of : Option ℕ → ℕ → Bool
is_leader_of None node = false
is_leader_of (Some leader) node = nat_eq node leader

module _ {B : Type 0} where
  -- the body of a request that is on its way to the leader
  abbrev pub forwarded_body : Kind B → Option B
  forwarded_body (RequestVote last_index last_term) = None
  forwarded_body (Vote granted) = None
  forwarded_body (Append batch) = None
  forwarded_body (AppendReply ok place) = None
  forwarded_body (Forward body) = Some body

  -- the request of this note, if there is one
  abbrev pub request_of : Option ℕ → Option B → Option (Request B)
  request_of None body = None
  request_of (Some note) None = None
  request_of (Some note) (Some body) = Some (request note body)

  -- The request that a message brings back to its sender, if its receiver did not take it. The sender is in this term,
  -- knows this leader, and last asked this request, which has not come back yet. A request of an earlier term, or to
  -- another leader, does not come back.
  abbrev pub brought_back : ℕ → Option ℕ → Option Asked → Message B → Option (Request B)
  brought_back term leader asked m =
      if nat_eq m.term term && is_leader_of leader m.to then request_of (note_in term asked) (forwarded_body m.kind) else None

  -- it waits before all others, or, if memory runs out, may be lost; and it does not come back again
  abbrev pub ComesBack : Option (Request B) → Queue B → Queue B → Type 0
  ComesBack None old new = new ≡ old
  ComesBack (Some r) old new = WaitsOrIsLost r.note (in_front r (settled old)) (settled old) new

  -- the same with each of these messages, in order
  abbrev pub AreBack : ℕ → Option ℕ → List (Envelope B) → Queue B → Queue B → Type 0
  AreBack term leader [] old new = new ≡ old
  AreBack term leader (e ∷ es) old new = (m : Queue B) × ComesBack (brought_back term leader old.asked e.message) old m × AreBack term leader es m new

  -- While none was asked, these came back: none, or the request that was last asked, once, if it could still come back.
  -- In its term the leader did not take it: AreBack says so of a turn.
  abbrev pub CameBack : Option Asked → List (Request B) → Option Asked → Type 0
  CameBack asked [] now = (now ≡ asked) ⊎ (now ≡ at_rest asked)
  CameBack asked (r ∷ []) now = (term : ℕ) × (asked ≡ Some (record { note = r.note; term = term; may_return = true })) × (now ≡ at_rest asked)
  CameBack asked (r ∷ q ∷ more) now = ⊥

  -- A request that came back waits before all others. If memory ran out, it may be lost. Nothing else about the
  -- requests changed, and no note was taken up.
  pub record HaveComeBack (old new : Account B) : Type 0 where
    pub back : List (Request B)
    pub waiting_is : new.requests.waiting ≡ back ++ old.requests.waiting
    pub came : CameBack old.requests.asked back new.requests.asked
    pub lost_grows : old.requests.lost ≤ new.requests.lost
    pub done_is : new.done ≡ old.done

  -- The first request that waits is asked in this term, if one is asked, and then requests may have come back.
  abbrev pub AsksFirst : ℕ → Bool → Account B → Account B → Type 0
  AsksFirst term true old new = (body : B) × (left : Queue B) × HasAsked term old.requests (Some body) left × HaveComeBack (record old { requests = left }) new
  AsksFirst term false old new = new ≡ old

  -- The first of the requests that wait are asked together in this term, as many as go at once, and the others still
  -- wait.
  pub record AsksFront (term : ℕ) (old new : Account B) : Type 0 where
    pub waiting_is : new.requests.waiting ≡ drop batch_limit old.requests.waiting
    pub asked_is : new.requests.asked ≡ last_asked term (take batch_limit old.requests.waiting) old.requests.asked
    pub lost_grows : old.requests.lost ≤ new.requests.lost
    pub done_is : new.done ≡ old.done

  -- a note was taken up, if the driver sent it
  abbrev pub counted : Bool → Account B → Account B
  counted is_told a = record a { done = if is_told then min (a.done + 1) (2 ^ 64 - 1) else a.done }

module _ {B L : Type 0} where
  -- What a note that is taken up does: a request waits after all others, or, if memory runs out, may be lost; a restart
  -- ends all that wait; any other note removes none.
  abbrev pub HeedsNote : Note B L → Account B → Account B → Type 0
  HeedsNote (note.Timeout contacts) a b = HaveComeBack a b
  HeedsNote note.Beat a b = HaveComeBack a b
  HeedsNote (note.Ask body) a b = (b.done ≡ a.done) × WaitsOrIsLost a.done (behind (request a.done body) a.requests) a.requests b.requests
  HeedsNote note.Opened a b = HaveComeBack a b
  HeedsNote note.Closed a b = HaveComeBack a b
  HeedsNote (note.Heard at line) a b = HaveComeBack a b
  HeedsNote note.Claim a b = HaveComeBack a b
  HeedsNote note.Wake a b = HaveComeBack a b
  HeedsNote note.Restart a b = b ≡ record a { requests = ended a.requests }
  HeedsNote note.End a b = HaveComeBack a b

module _ {M A L T P S C E : Type 0} where
  -- the same for a job
  abbrev pub HeedsJob : Job M A L T P S C E → Account C → Account C → Type 0
  HeedsJob (job.Note n) a b = HeedsNote n a b
  HeedsJob (job.Look place target reply) a b = HaveComeBack a b
  HeedsJob (job.Mark reply) a b = HaveComeBack a b
  HeedsJob (job.LookAfter number target reply) a b = HaveComeBack a b
  HeedsJob (job.Restart reply) a b = b ≡ record a { requests = ended a.requests }
  HeedsJob (job.Status reply) a b = HaveComeBack a b

  -- the end is not taken up
  abbrev pub HeedsUnless : Bool → Job M A L T P S C E → Account C → Account C → Type 0
  HeedsUnless true j a b = b ≡ a
  HeedsUnless false j a b = HeedsJob j (counted (is_told j) a) b

  -- the same for these jobs, in order
  abbrev pub Heeds : List (Job M A L T P S C E) → Account C → Account C → Type 0
  Heeds [] a b = b ≡ a
  Heeds (j ∷ js) a b = (m : Account C) × HeedsUnless (is_end j) j a m × Heeds js m b

module _ {M G O A L T P S C E : Type 0} where
  abbrev pub account_of : WorkerLoop M G O A L T P S C E → Account C
  account_of w = record { done = w.done; requests = queue_of w.requests }
