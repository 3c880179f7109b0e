-- What a worker does with the jobs of its inbox, one after the other.
use Rattle.std.proofs.Common.{◌≡◌, ◌<◌, ◌+◌, ◌&&◌, ◌||◌, not, cond, Bool, true, false, List, [], ◌∷◌, ◌++◌, length, Option, Some, None, refl, sym, ap, ◌∙◌, subst, arith}
use Rattle.std.proofs.lemmas.List.{length_push}
use Rattle.std.proofs.lemmas.List.Elements.{filter-append}
use Rattle.std.specs.List.{filter, list_any}
use Rattle.wire_bytes.specs.declared.mark.Mark.{Mark}
use Rattle.raft_log.specs.Batches.{batch_limit}
use Rattle.raft_node.specs.Machine.{Machine}
use Rattle.raft_node.specs.Together.{OnlyAppends}
use Rattle.world_views.specs.Inputs.{NodeInput}
use Rattle.raft_node.specs.declared.input.Input.TheVariants as input
use Rattle.world_views.specs.Views.{carries}
use Rattle.node_cells.specs.Cells.{CellParts}
use Rattle.node_cells.specs.Inputs.{OnlyAppend, input_of}
use Rattle.node_cells.specs.Turns.{CellOf}
use Rattle.node_cells.specs.Upstreams.{Tally}
use Rattle.node_notes.specs.declared.note.Note.{Note}
use Rattle.node_notes.specs.declared.note.Note.TheVariants as note
use Rattle.node_threads.specs.declared.inflow.Next.{Next}
use Rattle.node_threads.specs.declared.inflow.Next.TheVariants as next
use Rattle.node_threads.specs.declared.job.Job.{Job}
use Rattle.node_threads.specs.declared.job.Job.TheVariants as job
use Rattle.node_threads.specs.Homes.{IsSameHome}
use Rattle.node_threads.specs.Inflows.{jobs_in}
use Rattle.node_threads.specs.Reports.{is_end, is_last, leads_in}
use Rattle.node_threads.specs.Taking.{HasDoneAll, HasDonePiece, JobOf, PieceOf, is_for_node, is_over}
use Rattle.node_threads.specs.Taking.Piece.{Alone, Together}
use Rattle.node_threads.specs.Together.{AreReady, appended, input_in, is_idle, is_idle_note}
use Rattle.node_threads.specs.Work.{HasDone, HasDoneNote, HasHadTurn}
use Rattle.node_threads.proofs.Going.{home_after_job}
use Rattle.node_threads.proofs.Home.{home_together, same_home, same_home_still}
use Rattle.node_threads.proofs.Inflows.{jobs_end}

-- ---- inputs that may be gathered

module _ {B L : Type 0} where
  -- a leader only appends by such an input, and it brings no message
  note_appends : (n : Note B L) (x : NodeInput B L) → input_in n ≡ Some x → OnlyAppends (input_of x) × (carries x ≡ None)
  note_appends (note.Timeout contacts) x is = absurd (cc is)
  note_appends note.Beat x is = absurd (cc is)
  note_appends (note.Ask body) x is = absurd (cc is)
  note_appends note.Opened x is = let same : input.Opened ≡ x = cc is in subst (λ (z : NodeInput B L). OnlyAppends (input_of z) × (carries z ≡ None)) same (refl, refl)
  note_appends note.Closed x is = let same : input.Closed ≡ x = cc is in subst (λ (z : NodeInput B L). OnlyAppends (input_of z) × (carries z ≡ None)) same (refl, refl)
  note_appends (note.Heard at line) x is = let same : input.Heard at line ≡ x = cc is in subst (λ (z : NodeInput B L). OnlyAppends (input_of z) × (carries z ≡ None)) same (refl, refl)
  note_appends note.Claim x is = let same : input.Claim ≡ x = cc is in subst (λ (z : NodeInput B L). OnlyAppends (input_of z) × (carries z ≡ None)) same (refl, refl)
  note_appends note.Wake x is = absurd (cc is)
  note_appends note.Restart x is = absurd (cc is)
  note_appends note.End x is = absurd (cc is)

  -- it is not the end, and does something at the node
  note_for_node : (n : Note B L) (x : NodeInput B L) → input_in n ≡ Some x → (is_last n ≡ false) × (is_idle_note n ≡ false)
  note_for_node (note.Timeout contacts) x is = absurd (cc is)
  note_for_node note.Beat x is = absurd (cc is)
  note_for_node (note.Ask body) x is = absurd (cc is)
  note_for_node note.Opened x is = (refl, refl)
  note_for_node note.Closed x is = (refl, refl)
  note_for_node (note.Heard at line) x is = (refl, refl)
  note_for_node note.Claim x is = (refl, refl)
  note_for_node note.Wake x is = absurd (cc is)
  note_for_node note.Restart x is = absurd (cc is)
  note_for_node note.End x is = absurd (cc is)

  appends_more : (inputs : List (NodeInput B L)) (x : NodeInput B L) → OnlyAppend inputs → OnlyAppends (input_of x) → OnlyAppend (inputs ++ x ∷ [])
  appends_more [] x all one = (one, tt)
  appends_more (y ∷ inputs) x all one = (all.0, appends_more inputs x all.1 one)

module _ {M A L T P S C E : Type 0} where
  pub job_appends : (j : Job M A L T P S C E) (x : NodeInput C L) → appended j ≡ Some x → OnlyAppends (input_of x) × (carries x ≡ None)
  job_appends (job.Note n) x is = note_appends n x is
  job_appends (job.Look place target reply) x is = absurd (cc is)
  job_appends (job.Mark reply) x is = absurd (cc is)
  job_appends (job.LookAfter number target reply) x is = absurd (cc is)
  job_appends (job.Restart reply) x is = absurd (cc is)
  job_appends (job.Status reply) x is = absurd (cc is)

  pub job_for_node : (j : Job M A L T P S C E) (x : NodeInput C L) → appended j ≡ Some x → (is_end j ≡ false) × (is_idle j ≡ false)
  job_for_node (job.Note n) x is = note_for_node n x is
  job_for_node (job.Look place target reply) x is = absurd (cc is)
  job_for_node (job.Mark reply) x is = absurd (cc is)
  job_for_node (job.LookAfter number target reply) x is = absurd (cc is)
  job_for_node (job.Restart reply) x is = absurd (cc is)
  job_for_node (job.Status reply) x is = absurd (cc is)

  -- the part for the node of one thing that comes
  pub for_node_one : (j : Job M A L T P S C E) → is_end j ≡ false → is_idle j ≡ false → filter is_for_node (j ∷ []) ≡ j ∷ []
  for_node_one j goes acts = λ i. cond (not (goes i) && not (acts i)) (j ∷ []) []

  pub for_node_idle : (j : Job M A L T P S C E) → is_end j ≡ false → is_idle j ≡ true → filter is_for_node (j ∷ []) ≡ []
  for_node_idle j goes idle = λ i. cond (not (goes i) && not (idle i)) (j ∷ []) []

  pub for_node_end : (j : Job M A L T P S C E) → is_end j ≡ true → filter is_for_node (j ∷ []) ≡ []
  for_node_end j ends = λ i. cond (not (ends i) && not (is_idle j)) (j ∷ []) []

  pub over_end : (j : Job M A L T P S C E) (ends : Bool) → is_end j ≡ ends → list_any is_over (next.Job j ∷ []) ≡ (ends || false)
  over_end j ends is = ap (λ b. b || false) is

  -- what came last is for the node, after what was before
  pub for_node_more : (xs : List (Next (Job M A L T P S C E))) (x : Next (Job M A L T P S C E))
      → filter is_for_node (jobs_in (xs ++ x ∷ [])) ≡ filter is_for_node (jobs_in xs) ++ filter is_for_node (jobs_in (x ∷ []))
  for_node_more xs x = ap (filter is_for_node) (jobs_end xs x) ∙ filter-append is_for_node (jobs_in xs) (jobs_in (x ∷ []))

module _ {Setup Hosted Store B L T E P U : Type 0} where
  pub none_ready : (inputs : List (NodeInput B L)) (c : CellParts Setup Hosted Store B L T E P U) → inputs ≡ [] → AreReady inputs c
  none_ready inputs c none =
      subst (λ (l : List (NodeInput B L)). AreReady l c) (sym none) (record { append = tt; leads = λ some. absurd (omega (arith, some)); few = omega arith })

  pub ready_more : (inputs after : List (NodeInput B L)) (x : NodeInput B L) (c d : CellParts Setup Hosted Store B L T E P U) → after ≡ inputs ++ x ∷ [] → d ≡ c → leads_in c ≡ true
      → OnlyAppends (input_of x) → length inputs < batch_limit → AreReady inputs c → AreReady after d
  ready_more inputs after x c d is same leads one few ready =
      let long : length (inputs ++ x ∷ []) ≡ length inputs + 1 = length_push inputs x in
      subst (λ (l : List (NodeInput B L)). AreReady l d) (sym is)
      (record {
        append = appends_more inputs x ready.append one;
        leads = λ some. ap leads_in same ∙ leads;
        few = omega (arith, long, few);
      })

  pub ready_still : (inputs after : List (NodeInput B L)) (c d : CellParts Setup Hosted Store B L T E P U) → after ≡ inputs → d ≡ c → AreReady inputs c → AreReady after d
  ready_still inputs after c d is same ready =
      subst (λ (z : List (NodeInput B L) × CellParts Setup Hosted Store B L T E P U). AreReady z.0 z.1) (λ i. (sym is i, sym same i)) ready

  pub none_gathered : (inputs : List (NodeInput B L)) (c : CellParts Setup Hosted Store B L T E P U) → leads_in c ≡ false → AreReady inputs c → inputs ≡ []
  none_gathered [] c not ready = refl
  none_gathered (x ∷ inputs) c not ready = absurd (let yes = ready.leads (omega arith) in let clash : true ≡ false = sym yes ∙ not in cc clash)

-- ---- jobs

module _ (M : Machine) {Setup Hosted Store U : Type 0} (tally : U → Tally) where
  -- if a note is for such an input, it does a turn of that
  note_turned : (n : Note M.Body M.Line) (x : NodeInput M.Body M.Line) (c d : CellOf M Setup Hosted Store U) → input_in n ≡ Some x → HasHadTurn M tally c x d → HasDoneNote M tally n c d
  note_turned (note.Timeout contacts) x c d is h = absurd (cc is)
  note_turned note.Beat x c d is h = absurd (cc is)
  note_turned (note.Ask body) x c d is h = absurd (cc is)
  note_turned note.Opened x c d is h = let same : x ≡ input.Opened = cc is in subst (λ (z : NodeInput M.Body M.Line). HasHadTurn M tally c z d) same h
  note_turned note.Closed x c d is h = let same : x ≡ input.Closed = cc is in subst (λ (z : NodeInput M.Body M.Line). HasHadTurn M tally c z d) same h
  note_turned (note.Heard at line) x c d is h = let same : x ≡ input.Heard at line = cc is in subst (λ (z : NodeInput M.Body M.Line). HasHadTurn M tally c z d) same h
  note_turned note.Claim x c d is h = let same : x ≡ input.Claim = cc is in subst (λ (z : NodeInput M.Body M.Line). HasHadTurn M tally c z d) same h
  note_turned note.Wake x c d is h = absurd (cc is)
  note_turned note.Restart x c d is h = absurd (cc is)
  note_turned note.End x c d is h = absurd (cc is)

  idle_note : (n : Note M.Body M.Line) (c d : CellOf M Setup Hosted Store U) → is_idle_note n ≡ true → HasDoneNote M tally n c d → d ≡ c
  idle_note (note.Timeout contacts) c d is h = absurd (cc is)
  idle_note note.Beat c d is h = absurd (cc is)
  idle_note (note.Ask body) c d is h = h
  idle_note note.Opened c d is h = absurd (cc is)
  idle_note note.Closed c d is h = absurd (cc is)
  idle_note (note.Heard at line) c d is h = absurd (cc is)
  idle_note note.Claim c d is h = absurd (cc is)
  idle_note note.Wake c d is h = h
  idle_note note.Restart c d is h = absurd (cc is)
  idle_note note.End c d is h = absurd (cc is)

  module _ (marked : M.Body → Option Mark) (mark : Mark → M.Body) {Action : Type 0} where
    pub job_turned : (j : JobOf M Setup Hosted Action) (x : NodeInput M.Body M.Line) (c d : CellOf M Setup Hosted Store U) → appended j ≡ Some x
        → HasHadTurn M tally c x d → HasDone M tally marked mark j c d
    job_turned (job.Note n) x c d is h = note_turned n x c d is h
    job_turned (job.Look place target reply) x c d is h = absurd (cc is)
    job_turned (job.Mark reply) x c d is h = absurd (cc is)
    job_turned (job.LookAfter number target reply) x c d is h = absurd (cc is)
    job_turned (job.Restart reply) x c d is h = absurd (cc is)
    job_turned (job.Status reply) x c d is h = absurd (cc is)

    pub idle_same : (j : JobOf M Setup Hosted Action) (c d : CellOf M Setup Hosted Store U) → is_idle j ≡ true → HasDone M tally marked mark j c d → d ≡ c
    idle_same (job.Note n) c d is h = idle_note n c d is h
    idle_same (job.Look place target reply) c d is h = absurd (cc is)
    idle_same (job.Mark reply) c d is h = absurd (cc is)
    idle_same (job.LookAfter number target reply) c d is h = absurd (cc is)
    idle_same (job.Restart reply) c d is h = absurd (cc is)
    idle_same (job.Status reply) c d is h = absurd (cc is)

    -- one more piece was done
    pub pieces_end : (ps : List (PieceOf M Setup Hosted Action)) (p : PieceOf M Setup Hosted Action)
        (c b d : CellOf M Setup Hosted Store U) → HasDoneAll M tally marked mark ps c b → HasDonePiece M tally marked mark p b d → HasDoneAll M tally marked mark (ps ++ p ∷ []) c d
    pieces_end [] p c b d done last = (d, subst (λ (z : CellOf M Setup Hosted Store U). HasDonePiece M tally marked mark p z d) done last, refl)
    pieces_end (q ∷ ps) p c b d done last = (done.0, done.1, pieces_end ps p done.0 b d done.2 last)

    -- ---- that a cell stays its node's

    home_after_piece : (p : PieceOf M Setup Hosted Action) (c d : CellOf M Setup Hosted Store U)
        → HasDonePiece M tally marked mark p c d → IsSameHome c d
    home_after_piece (Alone j) c d h = home_after_job M tally marked mark j c d h
    home_after_piece (Together inputs) c d h = home_together M c inputs h.answer d h.turned

    pub home_after_pieces : (ps : List (PieceOf M Setup Hosted Action)) (c d : CellOf M Setup Hosted Store U)
        → HasDoneAll M tally marked mark ps c d → IsSameHome c d
    home_after_pieces [] c d h = same_home c d h
    home_after_pieces (p ∷ ps) c d h = same_home_still c h.0 d (home_after_piece p c h.0 h.1) (home_after_pieces ps h.0 d h.2)
