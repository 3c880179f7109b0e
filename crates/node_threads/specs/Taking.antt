-- What a worker does with the jobs that it takes up.
use Rattle.std.specs.Prelude.{◌≡◌, ◌⊎◌, ◌≤◌, ◌&&◌, ℕ, length, not, Bool, true, false, List, [], ◌∷◌, ◌++◌, filter, map, Option, Some, None}
use Rattle.std.specs.List.{list_any}
use Rattle.wire_bytes.specs.declared.mark.Mark.{Mark}
use Rattle.raft_log.specs.Batches.{batch_limit}
use Rattle.raft_node.specs.Machine.{Machine}
use Rattle.world_views.specs.Inputs.{NodeInput}
use Rattle.node_cells.specs.Turns.{CellOf}
use Rattle.node_cells.specs.Upstreams.{Tally}
use Rattle.node_threads.specs.declared.inflow.Next.{Next}
use Rattle.node_threads.specs.declared.inflow.Next.TheVariants as next
use Rattle.node_threads.specs.declared.job.Job.{Job}
use Rattle.node_threads.specs.Inflows.{GivenInRound, jobs_in}
use Rattle.node_threads.specs.Reports.{is_end, leads_in}
use Rattle.node_threads.specs.Together.{HasTurnedAll, HasTurnedTogether, appended, is_idle}
use Rattle.node_threads.specs.Waiting.{Account, Heeds}
use Rattle.node_threads.specs.Work.{HasDone, HasGoneRound, HasHadTurn}

-- a piece of the jobs in a worker's inbox
pub data Piece (J I : Type 0) : Type 0 where
  -- a job by itself
  Alone : J → Piece J I
  -- the inputs of several, together
  Together : List I → Piece J I

-- the piece that is gathered, if anything is
abbrev pub gathered_piece : {J I : Type 0} → List I → List (Piece J I)
gathered_piece [] = []
gathered_piece (x ∷ inputs) = Together (x ∷ inputs) ∷ []

module _ {H A L T P S C E : Type 0} where
  -- Whether a job does something with the node, or asks something of it. The end ends the worker, a request waits, and
  -- a wake is for the worker.
  abbrev pub is_for_node : Job H A L T P S C E → Bool
  is_for_node j = not (is_end j) && not (is_idle j)

  -- whether this ends a worker: it is asked to end, or nothing will come any more
  abbrev pub is_over : Next (Job H A L T P S C E) → Bool
  is_over (next.Job j) = is_end j
  is_over next.Nothing = false
  is_over next.Over = true

  -- A piece holds exactly these jobs: the one that is alone, or those whose inputs are together, in order, at least
  -- one.
  abbrev pub Holds : Piece (Job H A L T P S C E) (NodeInput C L) → List (Job H A L T P S C E) → Type 0
  Holds (Alone j) jobs = jobs ≡ j ∷ []
  Holds (Together []) jobs = ⊥
  Holds (Together (x ∷ inputs)) jobs = map appended jobs ≡ map Some (x ∷ inputs)

  -- these pieces hold exactly these jobs, in order, each job in exactly one
  abbrev pub Covers : List (Piece (Job H A L T P S C E) (NodeInput C L)) → List (Job H A L T P S C E) → Type 0
  Covers [] jobs = jobs ≡ []
  Covers (p ∷ ps) jobs = (front : List (Job H A L T P S C E)) × (rest : List (Job H A L T P S C E)) × (jobs ≡ front ++ rest) × Holds p front × Covers ps rest

-- a job of a worker whose node hosts this machine
abbrev pub JobOf : Machine → Type 0 → Type 0 → Type 0 → Type 0
JobOf M Setup Hosted Action = Job Hosted Action M.Line M.Target M.Played Setup M.Body M.Effect

-- a piece of its jobs
abbrev pub PieceOf : Machine → Type 0 → Type 0 → Type 0 → Type 0
PieceOf M Setup Hosted Action = Piece (JobOf M Setup Hosted Action) (NodeInput M.Body M.Line)

module _ (M : Machine) {Setup Hosted Store U : Type 0} (tally : U → Tally) where
  -- An input by which a leader only appends comes after those that were gathered. If memory runs out, it is done by
  -- itself after them.
  abbrev pub HasAdded : NodeInput M.Body M.Line → List (NodeInput M.Body M.Line) → CellOf M Setup Hosted Store U → List (NodeInput M.Body M.Line) → CellOf M Setup Hosted Store U → Type 0
  HasAdded x before c after d =
      ((after ≡ before ++ x ∷ []) × (d ≡ c)) ⊎ ((after ≡ []) × (b : CellOf M Setup Hosted Store U) × HasTurnedAll M before c b × HasHadTurn M tally b x d)

  module _ (marked : M.Body → Option Mark) (mark : Mark → M.Body) {Action : Type 0} where
    -- a job is done after all that was gathered before it; one that does nothing with the node leaves that unchanged
    abbrev pub HasDoneBehind : Bool → JobOf M Setup Hosted Action → List (NodeInput M.Body M.Line) → CellOf M Setup Hosted Store U → List (NodeInput M.Body M.Line) → CellOf M Setup Hosted Store U → Type 0
    HasDoneBehind true j before c after d = (after ≡ before) × HasDone M tally marked mark j c d
    HasDoneBehind false j before c after d = (after ≡ []) × (b : CellOf M Setup Hosted Store U) × HasTurnedAll M before c b × HasDone M tally marked mark j b d

    -- at a node that leads
    abbrev pub HasTakenLeading : Option (NodeInput M.Body M.Line) → JobOf M Setup Hosted Action → List (NodeInput M.Body M.Line) → CellOf M Setup Hosted Store U → List (NodeInput M.Body M.Line) → CellOf M Setup Hosted Store U → Type 0
    HasTakenLeading (Some x) j before c after d = HasAdded x before c after d
    HasTakenLeading None j before c after d = HasDoneBehind (is_idle j) j before c after d

    -- if the node leads, in this way, and else a job is done by itself
    abbrev pub HasTakenWhere : Bool → JobOf M Setup Hosted Action → List (NodeInput M.Body M.Line) → CellOf M Setup Hosted Store U → List (NodeInput M.Body M.Line) → CellOf M Setup Hosted Store U → Type 0
    HasTakenWhere true j before c after d = HasTakenLeading (appended j) j before c after d
    HasTakenWhere false j before c after d = (after ≡ before) × HasDone M tally marked mark j c d

    -- A job was taken up; these inputs were gathered before it, and those are once it is done.
    abbrev pub HasTakenUp : JobOf M Setup Hosted Action → List (NodeInput M.Body M.Line) → CellOf M Setup Hosted Store U → List (NodeInput M.Body M.Line) → CellOf M Setup Hosted Store U → Type 0
    HasTakenUp j before c after d = HasTakenWhere (leads_in c) j before c after d

    -- a piece was done
    abbrev pub HasDonePiece : PieceOf M Setup Hosted Action → CellOf M Setup Hosted Store U → CellOf M Setup Hosted Store U → Type 0
    HasDonePiece (Alone j) c d = HasDone M tally marked mark j c d
    HasDonePiece (Together inputs) c d = HasTurnedTogether M c inputs d

    -- these pieces were done, in order, each once, and nothing else
    abbrev pub HasDoneAll : List (PieceOf M Setup Hosted Action) → CellOf M Setup Hosted Store U → CellOf M Setup Hosted Store U → Type 0
    HasDoneAll [] c d = d ≡ c
    HasDoneAll (p ∷ ps) c d = (b : CellOf M Setup Hosted Store U) × HasDonePiece p c b × HasDoneAll ps b d

  module _ (marked : M.Body → Option Mark) (mark : Mark → M.Body) {Action I : Type 0} (gives : I → Bool → Next (JobOf M Setup Hosted Action) → I → Type 0) where
    -- An inbox gave this, and might wait for the first of it if this says so. Each job among it that is for the node
    -- was done, once and in order, and nothing else was; except those that came last, which are left in these pieces.
    pub record HasDoneThese (may_wait : Bool) (came : List (Next (JobOf M Setup Hosted Action))) (left : List (PieceOf M Setup Hosted Action)) (i : I) (c : CellOf M Setup Hosted Store U)
        (k : I) (d : CellOf M Setup Hosted Store U) : Type 0 where
      pub pieces : List (PieceOf M Setup Hosted Action)
      pub given : GivenInRound gives may_wait i came k
      pub covers : Covers (pieces ++ left) (filter is_for_node (jobs_in came))
      pub done : HasDoneAll marked mark pieces c d

    -- The same with what came in a round: at least one thing, and not too many, and each request among it waits. The
    -- worker is over if it was asked to end, or nothing will come any more.
    pub record HasDoneGiven (may_wait : Bool) (left : List (PieceOf M Setup Hosted Action)) (i : I) (a : Account M.Body) (c : CellOf M Setup Hosted Store U) (over : Bool)
        (k : I) (b : Account M.Body) (d : CellOf M Setup Hosted Store U) : Type 0 where
      pub came : List (Next (JobOf M Setup Hosted Action))
      pub some : 1 ≤ length came
      pub few : length came ≤ batch_limit
      pub over_is : over ≡ list_any is_over came
      pub these : HasDoneThese may_wait came left i c k d
      pub heeds : Heeds (jobs_in came) a b

    -- What came was done, and then what a round does after its jobs; and another round comes, unless the worker is
    -- over. The inbox might wait for the first thing if the round before left nothing to do, and for no other; and it
    -- may wait in the next round if this one leaves nothing to do.
    pub record HasDoneRound (may_wait : Bool) (i : I) (a : Account M.Body) (c : CellOf M Setup Hosted Store U) (goes_on leaves_nothing : Bool) (k : I) (b : Account M.Body)
        (d : CellOf M Setup Hosted Store U) : Type 0 where
      pub between : CellOf M Setup Hosted Store U
      pub over : Bool
      pub forwarded : Option ℕ
      pub account : Account M.Body
      pub jobs : HasDoneGiven may_wait [] i a c over k account between
      pub rest : HasGoneRound M tally forwarded account between leaves_nothing b d
      pub goes_on_is : goes_on ≡ not over
