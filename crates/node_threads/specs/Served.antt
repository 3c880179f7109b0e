-- What a worker does over many rounds.
use Rattle.std.specs.Prelude.{◌≡◌, ◌⊎◌, ◌≤◌, ◌*◌, ℕ, zero, suc, length, not, Bool, true, false, List, [], ◌∷◌, ◌++◌, filter, Option}
use Rattle.std.specs.List.{list_any}
use Rattle.wire_bytes.specs.declared.mark.Mark.{Mark}
use Rattle.raft_log.specs.Batches.{batch_limit}
use Rattle.raft_node.specs.Machine.{Machine}
use Rattle.raft_node.specs.declared.input.Input.TheVariants as input
use Rattle.world_views.specs.Inputs.{NodeInput}
use Rattle.node_cells.specs.Turns.{CellOf}
use Rattle.node_cells.specs.Upstreams.{Tally}
use Rattle.node_threads.specs.declared.inflow.Next.{Next}
use Rattle.node_threads.specs.declared.inflow.Next.TheVariants as next
use Rattle.node_threads.specs.declared.worker_loop.requests.Request.{Request}
use Rattle.node_threads.specs.Asking.{HasLeft, MayAsk}
use Rattle.node_threads.specs.Fates.{EachHasOneFate, IsCounted, counted_by_all, is_restart, requests_by}
use Rattle.node_threads.specs.Forwarding.{is_request}
use Rattle.node_threads.specs.Inflows.{Given, jobs_in}
use Rattle.node_threads.specs.Taking.{Covers, HasDonePiece, HasDoneRound, JobOf, Piece, is_for_node, is_over}
use Rattle.node_threads.specs.Together.{HasTurnedAll, asks_of}
use Rattle.node_threads.specs.Waiting.{Account}
use Rattle.node_threads.specs.Work.{Deed, HasDeed, HasHadTurn}
use Rattle.node_threads.specs.Work.Deed.{Takes, Turns}

module _ {I J : Type 0} (gives : I → Bool → Next J → I → Type 0) where
  -- These jobs are in an inbox: whatever it gives next is the first of them, and after that the others are in it.
  abbrev pub StandIn : List J → I → Type 0
  StandIn [] i = Unit {0}
  StandIn (j ∷ js) i = (may_wait : Bool) (x : Next J) (k : I) → gives i may_wait x k → (x ≡ next.Job j) × StandIn js k

-- one thing that a worker does with its node
pub data Act (J B L : Type 0) : Type 0 where
  -- a piece of its jobs
  Works : Piece J (NodeInput B L) → Act J B L
  -- it asks requests that waited: one by itself, or several together
  Asks : List (Request B) → Act J B L
  -- a thing besides its jobs, that is no request
  Goes : Deed B L → Act J B L
  -- it looks whether a message was taken, and processes nothing
  Looks : Act J B L

-- an act of a worker whose node hosts this machine
abbrev pub ActOf : Machine → Type 0 → Type 0 → Type 0 → Type 0
ActOf M Setup Hosted Action = Act (JobOf M Setup Hosted Action) M.Body M.Line

module _ {J B L : Type 0} where
  -- the pieces of jobs among these, in order
  abbrev pub pieces_in : List (Act J B L) → List (Piece J (NodeInput B L))
  pieces_in [] = []
  pieces_in (Works p ∷ acts) = p ∷ pieces_in acts
  pieces_in (Asks requests ∷ acts) = pieces_in acts
  pieces_in (Goes e ∷ acts) = pieces_in acts
  pieces_in (Looks ∷ acts) = pieces_in acts

  -- the requests that are asked by these, in order
  abbrev pub asked_in : List (Act J B L) → List (Request B)
  asked_in [] = []
  asked_in (Works p ∷ acts) = asked_in acts
  asked_in (Asks requests ∷ acts) = requests ++ asked_in acts
  asked_in (Goes e ∷ acts) = asked_in acts
  asked_in (Looks ∷ acts) = asked_in acts

module _ {B L : Type 0} where
  -- whether this processes a request
  abbrev pub turns_request : Deed B L → Bool
  turns_request (Takes from) = false
  turns_request (Turns x) = is_request x

module _ (M : Machine) {Setup Hosted Store U : Type 0} (tally : U → Tally) where
  -- One request was processed by itself, or these were together.
  abbrev pub HasTurnedRequests : List (Request M.Body) → CellOf M Setup Hosted Store U → CellOf M Setup Hosted Store U → Type 0
  HasTurnedRequests requests c d =
      ((r : Request M.Body) × (requests ≡ r ∷ []) × HasHadTurn M tally c (input.Ask r.body) d) ⊎ HasTurnedAll M (asks_of requests) c d

  -- one look whether the leader took what was last posted to it, if the node may ask then, or its mailbox is left
  abbrev pub HasLookedOn : CellOf M Setup Hosted Store U → CellOf M Setup Hosted Store U → Type 0
  HasLookedOn c d = ((may : Bool) × MayAsk c may d) ⊎ ((at : Option ℕ) × (left : Option ℕ) × HasLeft at c left d)

  module _ (marked : M.Body → Option Mark) (mark : Mark → M.Body) {Action : Type 0} where
    abbrev pub HasAct : ActOf M Setup Hosted Action → CellOf M Setup Hosted Store U → CellOf M Setup Hosted Store U → Type 0
    HasAct (Works p) c d = HasDonePiece M tally marked mark p c d
    HasAct (Asks requests) c d = HasTurnedRequests requests c d
    HasAct (Goes e) c d = (turns_request e ≡ false) × HasDeed M tally e c d
    HasAct Looks c d = HasLookedOn c d

    -- these were done, in order, and nothing else
    abbrev pub HasActed : List (ActOf M Setup Hosted Action) → CellOf M Setup Hosted Store U → CellOf M Setup Hosted Store U → Type 0
    HasActed [] c d = d ≡ c
    HasActed (x ∷ acts) c d = (b : CellOf M Setup Hosted Store U) × HasAct x c b × HasActed acts b d

  module _ (marked : M.Body → Option Mark) (mark : Mark → M.Body) {Action I : Type 0} (gives : I → Bool → Next (JobOf M Setup Hosted Action) → I → Type 0) where
    -- This many rounds were done, each from where the one before ended. Each but the last goes on, and the last does or
    -- does not. In each the inbox might wait if the one before left nothing to do.
    abbrev pub HasDoneRounds : ℕ → Bool → I → Account M.Body → CellOf M Setup Hosted Store U → Bool → Bool → I → Account M.Body → CellOf M Setup Hosted Store U → Type 0
    HasDoneRounds zero may_wait i a c goes_on leaves_nothing k b d = (goes_on ≡ true) × (leaves_nothing ≡ may_wait) × (k ≡ i) × (b ≡ a) × (d ≡ c)
    HasDoneRounds (suc n) may_wait i a c goes_on leaves_nothing k b d =
        (left_nothing : Bool) × (j : I) × (m : Account M.Body) × (e : CellOf M Setup Hosted Store U) × HasDoneRounds n may_wait i a c true left_nothing j m e
        × HasDoneRound M tally marked mark gives left_nothing j m e goes_on leaves_nothing k b d

    -- some rounds were done, and no other comes
    abbrev pub HasWorkedOff : Bool → I → Account M.Body → CellOf M Setup Hosted Store U → I → Account M.Body → CellOf M Setup Hosted Store U → Type 0
    HasWorkedOff may_wait i a c k b d = (n : ℕ) × (leaves_nothing : Bool) × HasDoneRounds n may_wait i a c false leaves_nothing k b d

    -- An inbox gave this, and these things were done with the node, in order, and nothing else. Among them each job
    -- that came and is for the node was done, once and in order, and no other. Each request that came waited, under the
    -- number of its note, and each that waited has one fate.
    pub record HasServed (came : List (Next (JobOf M Setup Hosted Action))) (i : I) (a : Account M.Body) (c : CellOf M Setup Hosted Store U)
        (k : I) (b : Account M.Body) (d : CellOf M Setup Hosted Store U) : Type 0 where
      pub given : Given gives i came k
      pub acts : List (ActOf M Setup Hosted Action)
      pub acted : HasActed marked mark acts c d
      pub jobs : Covers (pieces_in acts) (filter is_for_node (jobs_in came))
      pub requests : EachHasOneFate (requests_by a.done (jobs_in came)) (asked_in acts) (list_any is_restart (jobs_in came)) a.requests b.requests
      pub done_is : b.done ≡ counted_by_all (jobs_in came) a.done

    -- The same over several rounds: in each at least one thing came, and not too many. No other round comes exactly if
    -- the worker was asked to end, or nothing will come any more.
    pub record HasServedRounds (n : ℕ) (i : I) (a : Account M.Body) (c : CellOf M Setup Hosted Store U) (goes_on : Bool) (k : I) (b : Account M.Body)
        (d : CellOf M Setup Hosted Store U) : Type 0 where
      pub came : List (Next (JobOf M Setup Hosted Action))
      pub some : n ≤ length came
      pub few : length came ≤ n * batch_limit
      pub goes_on_is : goes_on ≡ not (list_any is_over came)
      pub served : HasServed came i a c k b d

-- Over any number of rounds, with any inbox: what came is done, and each request that waits or came has one fate.
abbrev pub WhatComesIsServed : (M : Machine) (Setup Hosted Store : Type 0) {U : Type 0} → (U → Tally) → (M.Body → Option Mark) → (Mark → M.Body) → {Action I : Type 0}
    → (I → Bool → Next (JobOf M Setup Hosted Action) → I → Type 0) → Type 0
WhatComesIsServed M Setup Hosted Store {U} tally marked mark {Action} {I} gives =
    (n : ℕ) (may_wait : Bool) (i : I) (a : Account M.Body) (c : CellOf M Setup Hosted Store U) (goes_on leaves_nothing : Bool) (k : I) (b : Account M.Body)
    (d : CellOf M Setup Hosted Store U) → HasDoneRounds M tally marked mark gives n may_wait i a c goes_on leaves_nothing k b d → HasServedRounds M tally marked mark gives n i a c goes_on k b d

-- If these jobs are in an inbox, maybe with others after them, at least as many are served as rounds are done.
abbrev pub WhatStandsIsServed : (M : Machine) (Setup Hosted Store : Type 0) {U : Type 0} → (U → Tally) → (M.Body → Option Mark) → (Mark → M.Body) → {Action I : Type 0}
    → (I → Bool → Next (JobOf M Setup Hosted Action) → I → Type 0) → Type 0
WhatStandsIsServed M Setup Hosted Store {U} tally marked mark {Action} {I} gives =
    (jobs : List (JobOf M Setup Hosted Action)) (n : ℕ) (may_wait : Bool) (i : I) (a : Account M.Body) (c : CellOf M Setup Hosted Store U) (goes_on leaves_nothing : Bool) (k : I)
    (b : Account M.Body) (d : CellOf M Setup Hosted Store U)
    → StandIn gives jobs i → length jobs ≤ n → HasDoneRounds M tally marked mark gives n may_wait i a c goes_on leaves_nothing k b d
    → (came : List (Next (JobOf M Setup Hosted Action))) × (later : List (JobOf M Setup Hosted Action)) × (jobs_in came ≡ jobs ++ later)
    × HasServed M tally marked mark gives came i a c k b d

-- No request is asked again, unless it came back: by its number, over what was served.
abbrev pub RequestsAreCounted : (M : Machine) (Setup Hosted Store : Type 0) {U : Type 0} → (U → Tally) → (M.Body → Option Mark) → (Mark → M.Body) → {Action I : Type 0}
    → (I → Bool → Next (JobOf M Setup Hosted Action) → I → Type 0) → Type 0
RequestsAreCounted M Setup Hosted Store {U} tally marked mark {Action} {I} gives =
    (came : List (Next (JobOf M Setup Hosted Action))) (i : I) (a : Account M.Body) (c : CellOf M Setup Hosted Store U) (k : I) (b : Account M.Body) (d : CellOf M Setup Hosted Store U)
    (s : HasServed M tally marked mark gives came i a c k b d) (number : ℕ)
    → IsCounted (requests_by a.done (jobs_in came)) (asked_in s.acts) a.requests b.requests s.requests.back s.requests.ended s.requests.lost number
