-- What a worker does with its node's cell.
use Rattle.std.specs.Prelude.{◌≡◌, ◌≢◌, ◌≤◌, ◌↔◌, ◌⊎◌, ◌++◌, ◌&&◌, not, ℕ, zero, suc, Bool, true, false, List, [], ◌∷◌, take, Option, None, Some, Result, Ok, Err, option_map, nat_le, ⊤}
use Rattle.wire_bytes.specs.declared.mark.Mark.{Mark}
use Rattle.raft_log.specs.Batches.{batch_limit}
use Rattle.raft_node.specs.declared.input.Looked.{Looked as PlayedAt}
use Rattle.raft_node.specs.Machine.{Machine}
use Rattle.world_views.specs.declared.envelope.Envelope.{Envelope}
use Rattle.world_views.specs.Inputs.{NodeInput}
use Rattle.raft_node.specs.declared.input.Input.TheVariants as input
use Rattle.node_cells.specs.declared.mark_turn.MarkTurn.{MarkTurn}
use Rattle.node_cells.specs.Marking.{HasLookedAfter, HasMarked}
use Rattle.node_cells.specs.Cells.{CellParts}
use Rattle.node_cells.specs.declared.cell_fault.CellFault.{CellFault}
use Rattle.node_cells.specs.declared.phase.Phase.TheVariants.{Up}
use Rattle.node_cells.specs.declared.record.TurnOutput.{TurnOutput}
use Rattle.node_cells.specs.Openings.{HasTakenIn}
use Rattle.node_cells.specs.Restarts.{HasRestarted}
use Rattle.node_cells.specs.Turns.{CellOf, HasLooked, HasTurned}
use Rattle.node_cells.specs.Upstreams.{Tally}
use Rattle.node_notes.specs.declared.note.Note.{Note}
use Rattle.node_notes.specs.declared.note.Note.TheVariants as note
use Rattle.node_threads.specs.Asking.{HasLeft, MayAsk, leader_in, term_in}
use Rattle.node_threads.specs.Forwarding.{asks_first, is_left, is_request, request_at}
use Rattle.node_threads.specs.Rounds.{GathersMark, GathersTurn}
use Rattle.node_threads.specs.declared.worker_loop.round.Round.{Round}
use Rattle.node_threads.specs.Reports.{leads_in}
use Rattle.node_threads.specs.Requests.{Queue}
use Rattle.node_threads.specs.Waiting.{Account, AsksFirst, AsksFront, HaveComeBack}
use Rattle.node_threads.specs.Together.{HasTurnedAll, asks_of}
use Rattle.node_threads.specs.declared.worker_loop.asking.TheConstants.{MOST_ASKED}
use Rattle.node_threads.specs.declared.worker_loop.turning.TheConstants.{MOST_APPLIED}
use Rattle.node_threads.specs.declared.job.Job.{Job}
use Rattle.node_threads.specs.declared.job.Job.TheVariants as job
use Rattle.node_threads.specs.declared.worker_loop.requests.Request.{Request}

-- how many places a round applies at most
abbrev pub apply_limit : ℕ
apply_limit = MOST_APPLIED

-- how many requests a round asks one by one at most
abbrev pub ask_limit : ℕ
ask_limit = MOST_ASKED

-- one thing that a worker does with its node besides its jobs
pub data Deed (B L : Type 0) : Type 0 where
  -- it takes the message in the mailbox from the node at this place, and processes it
  Takes : ℕ → Deed B L
  -- it processes an input
  Turns : NodeInput B L → Deed B L

module _ {B L : Type 0} where
  -- the mailbox from the node at this place is taken, if it is not left
  abbrev pub takes_unless : Bool → ℕ → List (Deed B L)
  takes_unless true place = []
  takes_unless false place = Takes place ∷ []

  -- each mailbox from this many nodes is taken once, by rising number of the sender, except one that is left
  abbrev pub takes_but : Option ℕ → ℕ → List (Deed B L)
  takes_but left zero = []
  takes_but left (suc n) = takes_but left n ++ takes_unless (is_left left n) n

  -- this many places are applied
  abbrev pub applies : ℕ → List (Deed B L)
  applies zero = []
  applies (suc n) = Turns input.Apply ∷ applies n

  -- a beat, if there is news
  abbrev pub beats_on : Bool → List (Deed B L)
  beats_on true = Turns input.Beat ∷ []
  beats_on false = []

  -- the node asks for votes, if it waited too long
  abbrev pub times_out : Bool → List (Deed B L)
  times_out true = Turns input.Timeout ∷ []
  times_out false = []

-- the number of the mark that was asked
abbrev pub number_in : {B E : Type 0} → Result (MarkTurn B E) CellFault → Result ℕ CellFault
number_in (Ok asked) = Ok asked.number
number_in (Err fault) = Err fault

-- nothing that is agreed is left to apply: the node of a cell is down, or has applied all of it
abbrev pub AppliesNone : {Setup Hosted Store B L T E P U : Type 0} → CellParts Setup Hosted Store B L T E P U → Type 0
AppliesNone c = (c.phase ≢ Up) ⊎ (c.node.state.standing.commit ≤ c.node.state.standing.applied)

module _ (M : Machine) {Setup Hosted Store U : Type 0} where
  -- the node was started again, or was not
  abbrev pub HasTriedAgain : CellOf M Setup Hosted Store U → CellOf M Setup Hosted Store U → Type 0
  HasTriedAgain c d = (answer : Result (Unit {0}) CellFault) × HasRestarted M c answer d

  -- one look into a mailbox: the delivery of its message comes next
  pub record HasTaken (c : CellOf M Setup Hosted Store U) (from : ℕ) (next : Option (NodeInput M.Body M.Line)) (d : CellOf M Setup Hosted Store U) : Type 0 where
    pub came : Option (Envelope M.Body)
    pub next_is : next ≡ option_map input.Deliver came
    pub taken : HasTakenIn c from came d

  module _ (tally : U → Tally) where
    -- one turn of the cell with this input, and nothing else
    pub record HasHadTurn (c : CellOf M Setup Hosted Store U) (x : NodeInput M.Body M.Line) (d : CellOf M Setup Hosted Store U) : Type 0 where
      pub answer : Result (TurnOutput M.Body M.Effect) CellFault
      pub turned : HasTurned M tally c x answer d

    -- one turn of the cell with this input, which did nothing
    pub record HasFailed (c : CellOf M Setup Hosted Store U) (x : NodeInput M.Body M.Line) (d : CellOf M Setup Hosted Store U) : Type 0 where
      pub fault : CellFault
      pub turned : HasTurned M tally c x (Err fault) d

    -- and what it gave was gathered
    pub record HasGathered (c : CellOf M Setup Hosted Store U) (x : NodeInput M.Body M.Line) (old : Round M.Effect) (forwarded : Option ℕ) (requests : Queue M.Body)
        (d : CellOf M Setup Hosted Store U) (new : Round M.Effect) (now_forwarded : Option ℕ) (now_requests : Queue M.Body) : Type 0 where
      pub answer : Result (TurnOutput M.Body M.Effect) CellFault
      pub turned : HasTurned M tally c x answer d
      pub gathers : GathersTurn M.class (term_in d) (leader_in d) (is_request x) answer old forwarded requests new now_forwarded now_requests

    -- a turn of this input, if there is one
    abbrev pub HasTurnedIn : Option (NodeInput M.Body M.Line) → CellOf M Setup Hosted Store U → CellOf M Setup Hosted Store U → Type 0
    HasTurnedIn None c d = d ≡ c
    HasTurnedIn (Some x) c d = HasHadTurn c x d

    -- one look into a mailbox, and a turn of its message
    pub record HasLookedIn (c : CellOf M Setup Hosted Store U) (from : ℕ) (d : CellOf M Setup Hosted Store U) : Type 0 where
      pub came : Option (Envelope M.Body)
      pub between : CellOf M Setup Hosted Store U
      pub taken : HasTakenIn c from came between
      pub turned : HasTurnedIn (option_map input.Deliver came) between d

    abbrev pub HasDeed : Deed M.Body M.Line → CellOf M Setup Hosted Store U → CellOf M Setup Hosted Store U → Type 0
    HasDeed (Takes from) c d = HasLookedIn c from d
    HasDeed (Turns x) c d = HasHadTurn c x d

    -- these things were done, in order, and nothing else
    abbrev pub Does : List (Deed M.Body M.Line) → CellOf M Setup Hosted Store U → CellOf M Setup Hosted Store U → Type 0
    Does [] c d = d ≡ c
    Does (e ∷ es) c d = (b : CellOf M Setup Hosted Store U) × HasDeed e c b × Does es b d

    -- each mailbox of the group was taken once, by rising number of the sender, except one that is left; and nothing
    -- else was done
    abbrev pub HasTakenBut : Option ℕ → CellOf M Setup Hosted Store U → CellOf M Setup Hosted Store U → Type 0
    HasTakenBut left c d = Does (takes_but left c.ether.size) c d

    -- this request is asked, if the node may ask
    abbrev pub AsksWhere : M.Body → Bool → Bool → CellOf M Setup Hosted Store U → CellOf M Setup Hosted Store U → Type 0
    AsksWhere body true true c d = HasHadTurn c (input.Ask body) d
    AsksWhere body true false c d = ⊥
    AsksWhere body false true c d = ⊥
    AsksWhere body false false c d = d ≡ c

    -- one look whether the node may ask, and this request is asked if it may
    pub record HasTriedAsking (body : M.Body) (asked : Bool) (c d : CellOf M Setup Hosted Store U) : Type 0 where
      pub may : Bool
      pub seen : CellOf M Setup Hosted Store U
      pub looked : MayAsk c may seen
      pub asks : AsksWhere body may asked seen d

    -- the same with the first of the requests that wait, if there is one
    abbrev pub HasAskedFirstOf : List (Request M.Body) → Bool → CellOf M Setup Hosted Store U → CellOf M Setup Hosted Store U → Type 0
    HasAskedFirstOf [] asked c d = (asked ≡ false) × (d ≡ c)
    HasAskedFirstOf (r ∷ waiting) asked c d = HasTriedAsking r.body asked c d

    -- and it no longer waits, if it was asked: each request that waits is asked once
    pub record HasAskedOne (a : Account M.Body) (asked : Bool) (c : CellOf M Setup Hosted Store U) (b : Account M.Body) (d : CellOf M Setup Hosted Store U) : Type 0 where
      pub cell : HasAskedFirstOf a.requests.waiting asked c d
      pub requests : AsksFirst (term_in c) asked a b

    -- Requests were asked one by one, at most this many. Either a try asked none, because none waits or the node may
    -- not ask, and with that it is over; or each try asked one, and there may be more.
    abbrev pub HasAskedUpTo : ℕ → Account M.Body → CellOf M Setup Hosted Store U → Bool → Account M.Body → CellOf M Setup Hosted Store U → Type 0
    HasAskedUpTo zero a c is_over b d = (is_over ≡ false) × (b ≡ a) × (d ≡ c)
    HasAskedUpTo (suc n) a c is_over b d =
        (HasAskedOne a false c b d × (is_over ≡ true))
        ⊎ ((m : Account M.Body) × (e : CellOf M Setup Hosted Store U) × HasAskedOne a true c m e × HasAskedUpTo n m e is_over b d)

    -- at most as many as a round asks one by one
    abbrev pub HasAskedEach : Account M.Body → CellOf M Setup Hosted Store U → Bool → Account M.Body → CellOf M Setup Hosted Store U → Type 0
    HasAskedEach a c is_over b d = (n : ℕ) × (n ≡ ask_limit) × HasAskedUpTo n a c is_over b d

    -- a node that leads was asked the first of the requests that wait, together, as many as go at once, and the others
    -- still wait
    pub record HasAskedTogether (a : Account M.Body) (c : CellOf M Setup Hosted Store U) (b : Account M.Body) (d : CellOf M Setup Hosted Store U) : Type 0 where
      pub leads : leads_in c ≡ true
      pub turned : HasTurnedAll M (asks_of (take batch_limit a.requests.waiting)) c d
      pub requests : AsksFront (term_in c) a b

    -- that, or nothing was done
    abbrev pub HasTriedTogether : Account M.Body → Bool → CellOf M Setup Hosted Store U → Account M.Body → CellOf M Setup Hosted Store U → Type 0
    HasTriedTogether a true c b d = HasAskedTogether a c b d
    HasTriedTogether a false c b d = (b ≡ a) × (d ≡ c)

    -- Requests that wait were asked: together, or one by one if the node does not lead, or memory ran out. It is over
    -- if none waits, or the node may not ask more now.
    abbrev pub HasAskedOn : Account M.Body → CellOf M Setup Hosted Store U → Bool → Account M.Body → CellOf M Setup Hosted Store U → Type 0
    HasAskedOn a c is_over b d = (HasAskedTogether a c b d × ((is_over ≡ true) ↔ (b.requests.waiting ≡ []))) ⊎ HasAskedEach a c is_over b d

    -- the first request that waits is asked, if it is to be asked before the mailboxes are taken
    abbrev pub AsksBefore : Bool → Account M.Body → CellOf M Setup Hosted Store U → Account M.Body → CellOf M Setup Hosted Store U → Type 0
    AsksBefore true a c b d = (asked : Bool) × HasAskedOne a asked c b d
    AsksBefore false a c b d = (b ≡ a) × (d ≡ c)

    -- this many agreed places were applied
    abbrev pub HasApplied : CellOf M Setup Hosted Store U → CellOf M Setup Hosted Store U → Type 0
    HasApplied c d = (n : ℕ) × Does (applies n) c d

    -- Why a round stops applying, after this many places: nothing is left, a turn did nothing, or no round applies more,
    -- and some may be left.
    abbrev pub StopsApplying : ℕ → Bool → CellOf M Setup Hosted Store U → CellOf M Setup Hosted Store U → Type 0
    StopsApplying count is_all c d =
        ((is_all ≡ true) × AppliesNone c × (d ≡ c)) ⊎ HasFailed c input.Apply d ⊎ ((is_all ≡ false) × (count ≡ apply_limit) × (d ≡ c))

    -- places were applied, one after the other, until it stopped
    abbrev pub HasAppliedOn : CellOf M Setup Hosted Store U → Bool → CellOf M Setup Hosted Store U → Type 0
    HasAppliedOn c is_all d = (n : ℕ) × (b : CellOf M Setup Hosted Store U) × Does (applies n) c b × StopsApplying n is_all b d

    -- All mailboxes were taken. Then the node asked for votes, if it does not lead and had heard few enough times of a
    -- leader.
    pub record HasTimedOut (is_few : Bool) (c d : CellOf M Setup Hosted Store U) : Type 0 where
      pub between : CellOf M Setup Hosted Store U
      pub taken : HasTakenBut None c between
      pub turned : Does (times_out (is_few && not (leads_in between))) between d

    -- what a note does: a turn of it, a restart, or nothing; a request waits for a leader
    abbrev pub HasDoneNote : Note M.Body M.Line → CellOf M Setup Hosted Store U → CellOf M Setup Hosted Store U → Type 0
    HasDoneNote (note.Timeout contacts) c d = (is_few : Bool) × HasTimedOut is_few c d
    HasDoneNote note.Beat c d = HasHadTurn c input.Beat d
    HasDoneNote (note.Ask body) c d = d ≡ c
    HasDoneNote note.Opened c d = HasHadTurn c input.Opened d
    HasDoneNote note.Closed c d = HasHadTurn c input.Closed d
    HasDoneNote (note.Heard at line) c d = HasHadTurn c (input.Heard at line) d
    HasDoneNote note.Claim c d = HasHadTurn c input.Claim d
    HasDoneNote note.Wake c d = d ≡ c
    HasDoneNote note.Restart c d = HasTriedAgain c d
    HasDoneNote note.End c d = d ≡ c

    -- whether a node asks for votes after a timeout depends on how often it has heard of a leader by then
    abbrev pub IsTimedOutBy : ℕ → Note M.Body M.Line → CellOf M Setup Hosted Store U → CellOf M Setup Hosted Store U → Type 0
    IsTimedOutBy heard (note.Timeout contacts) c d = HasTimedOut (nat_le heard contacts) c d
    IsTimedOutBy heard note c d = ⊤

    -- the node beats, if there is news
    abbrev pub HasBeaten : Bool → CellOf M Setup Hosted Store U → CellOf M Setup Hosted Store U → Type 0
    HasBeaten has_news c d = Does (beats_on has_news) c d

    -- What a round does after its jobs. A node that knows a leader, and did not last post a request to it, asks the
    -- first that waits. Then the mailboxes are taken, except that of a leader that has not taken a request. Then
    -- requests are asked, agreed places are applied, and if there is news, the node beats. A request waits until it is
    -- asked, and waits again if it comes back. Nothing is left to do if no request was left that the node may ask,
    -- nothing to apply and nothing to report.
    pub record HasGoneRound (forwarded : Option ℕ) (a : Account M.Body) (c : CellOf M Setup Hosted Store U) (leaves_nothing : Bool) (b : Account M.Body)
        (d : CellOf M Setup Hosted Store U) : Type 0 where
      pub first : CellOf M Setup Hosted Store U
      pub seen : CellOf M Setup Hosted Store U
      pub heard : CellOf M Setup Hosted Store U
      pub asked : CellOf M Setup Hosted Store U
      pub applied : CellOf M Setup Hosted Store U
      pub account_first : Account M.Body
      pub account_heard : Account M.Body
      pub account_asked : Account M.Body
      pub now_forwarded : Option ℕ
      pub left : Option ℕ
      pub has_news : Bool
      pub all_asked : Bool
      pub all_applied : Bool
      pub all_told : Bool
      pub asks_before : AsksBefore (asks_first forwarded (leader_in c)) a c account_first first
      pub leaves : HasLeft (request_at now_forwarded (leader_in first)) first left seen
      pub takes : HasTakenBut left seen heard
      pub taken_back : HaveComeBack account_first account_heard
      pub asks : HasAskedOn account_heard heard all_asked account_asked asked
      pub applies_on : HasApplied asked applied
      pub stops_applying : HasAppliedOn asked all_applied applied
      pub beats : HasBeaten has_news applied d
      pub come_back : HaveComeBack account_asked b
      pub leaves_nothing_is : leaves_nothing ≡ (all_asked && (all_applied && all_told))

    module _ (marked : M.Body → Option Mark) (mark : Mark → M.Body) where
      -- the node's next mark was asked for, and this is its number
      pub record HasMarkedOne (c : CellOf M Setup Hosted Store U) (result : Result ℕ CellFault) (d : CellOf M Setup Hosted Store U) : Type 0 where
        pub answer : Result (MarkTurn M.Body M.Effect) CellFault
        pub result_is : result ≡ number_in answer
        pub asked : HasMarked M tally marked mark c answer d

      -- and its result was gathered
      pub record HasGatheredMark (c : CellOf M Setup Hosted Store U) (old : Round M.Effect) (forwarded : Option ℕ) (requests : Queue M.Body)
          (d : CellOf M Setup Hosted Store U) (new : Round M.Effect) (now_forwarded : Option ℕ) (now_requests : Queue M.Body) : Type 0 where
        pub answer : Result (MarkTurn M.Body M.Effect) CellFault
        pub asked : HasMarked M tally marked mark c answer d
        pub gathers : GathersMark M.class (term_in d) (leader_in d) answer old forwarded requests new now_forwarded now_requests

    module _ (marked : M.Body → Option Mark) (mark : Mark → M.Body) {Action : Type 0} where
      -- what a job does by itself
      abbrev pub HasDone : Job Hosted Action M.Line M.Target M.Played Setup M.Body M.Effect → CellOf M Setup Hosted Store U → CellOf M Setup Hosted Store U → Type 0
      HasDone (job.Note note) c d = HasDoneNote note c d
      HasDone (job.Look place target reply) c d = (answer : Result (PlayedAt M.Played) CellFault) × HasLooked M tally c place target answer d
      HasDone (job.Mark reply) c d = (answer : Result (MarkTurn M.Body M.Effect) CellFault) × HasMarked M tally marked mark c answer d
      HasDone (job.LookAfter number target reply) c d = (answer : Result (PlayedAt M.Played) CellFault) × HasLookedAfter M tally marked c number target answer d
      HasDone (job.Restart reply) c d = HasTriedAgain c d
      HasDone (job.Status reply) c d = d ≡ c
