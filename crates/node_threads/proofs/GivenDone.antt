-- What an inbox gave is done, except what is gathered.
use Rattle.std.proofs.Common.{◌≡◌, ◌<◌, ◌≤◌, ◌+◌, ◌&&◌, ◌||◌, nat_eq, ⊎_elim, ℕ, Bool, true, false, List, [], ◌∷◌, ◌++◌, length, Option, Some, None, refl, sym, ap, ◌∙◌, subst, arith}
use Rattle.std.proofs.lemmas.List.{append-nil, length_push}
use Rattle.std.proofs.lemmas.List.Folds.{list_any-append}
use Rattle.std.specs.List.{filter, list_any}
use Rattle.wire_bytes.specs.declared.mark.Mark.{Mark}
use Rattle.raft_log.specs.Batches.{batch_limit}
use Rattle.raft_node.specs.Machine.{Machine}
use Rattle.world_views.specs.Inputs.{NodeInput}
use Rattle.node_cells.specs.Turns.{CellOf}
use Rattle.node_cells.specs.Upstreams.{Tally}
use Rattle.node_threads.specs.declared.inflow.Next.{Next}
use Rattle.node_threads.specs.declared.inflow.Next.TheVariants as next
use Rattle.node_threads.specs.Homes.{IsSameHome}
use Rattle.node_threads.specs.Inflows.{jobs_in}
use Rattle.node_threads.specs.Reports.{is_end, is_told, leads_in}
use Rattle.node_threads.specs.Taking.{Covers, HasAdded, HasDoneAll, HasDoneBehind, HasDoneGiven, HasDoneThese, HasTakenLeading, HasTakenUp, HasTakenWhere, JobOf, PieceOf, gathered_piece, is_for_node, is_over}
use Rattle.node_threads.specs.Taking.Piece.{Alone, Together}
use Rattle.node_threads.specs.Together.{AreReady, HasTurnedAll, appended, is_idle}
use Rattle.node_threads.specs.Waiting.{Account, Heeds, HeedsJob, counted}
use Rattle.node_threads.specs.Work.{HasDone, HasHadTurn}
use Rattle.node_threads.proofs.Covered.{covers_end, covers_more}
use Rattle.node_threads.proofs.Inflows.{first_waits, given_end, waits_behind}
use Rattle.node_threads.proofs.Waiting.{heeds_next, heeds_one}
use Rattle.node_threads.proofs.Taken.{for_node_idle, for_node_more, for_node_one, home_after_pieces, idle_same, job_appends, job_for_node, job_turned, none_gathered, none_ready, over_end, pieces_end, ready_more, ready_still}

module _ (M : Machine) {Setup Hosted Store U : Type 0} (tally : U → Tally) where
  module _ (marked : M.Body → Option Mark) (mark : Mark → M.Body) {Action I : Type 0} (gives : I → Bool → Next (JobOf M Setup Hosted Action) → I → Type 0) (may : Bool) where
    home_after_these : (came : List (Next (JobOf M Setup Hosted Action))) (left : List (PieceOf M Setup Hosted Action)) (i : I) (c : CellOf M Setup Hosted Store U) (k : I)
        (d : CellOf M Setup Hosted Store U) → HasDoneThese M tally marked mark gives may came left i c k d → IsSameHome c d
    home_after_these came left i c k d h = home_after_pieces M tally marked mark h.pieces c d h.done

    pub home_after_given : (left : List (PieceOf M Setup Hosted Action)) (i : I) (p : Account M.Body) (c : CellOf M Setup Hosted Store U) (over : Bool) (k : I) (q : Account M.Body)
        (d : CellOf M Setup Hosted Store U) → HasDoneGiven M tally marked mark gives may left i p c over k q d → IsSameHome c d
    home_after_given left i p c over k q d h = home_after_these h.came left i c k d h.these

    -- if nothing is gathered, nothing is left
    these_open : (came : List (Next (JobOf M Setup Hosted Action))) (inputs : List (NodeInput M.Body M.Line)) (i : I) (c : CellOf M Setup Hosted Store U) (k : I)
        (d : CellOf M Setup Hosted Store U) → inputs ≡ [] → HasDoneThese M tally marked mark gives may came [] i c k d → HasDoneThese M tally marked mark gives may came (gathered_piece inputs) i c k d
    these_open came inputs i c k d none h =
        subst (λ (l : List (NodeInput M.Body M.Line)). HasDoneThese M tally marked mark gives may came (gathered_piece l) i c k d) (sym none) h

    -- what was gathered is done, and none of that is left
    these_all : (came : List (Next (JobOf M Setup Hosted Action))) (inputs : List (NodeInput M.Body M.Line)) (i : I) (c : CellOf M Setup Hosted Store U) (k : I)
        (b d : CellOf M Setup Hosted Store U) → HasDoneThese M tally marked mark gives may came (gathered_piece inputs) i c k b → HasTurnedAll M inputs b d
        → HasDoneThese M tally marked mark gives may came [] i c k d
    these_all came [] i c k b d h done = subst (λ (z : CellOf M Setup Hosted Store U). HasDoneThese M tally marked mark gives may came [] i c k z) (sym done) h
    these_all came (x ∷ inputs) i c k b d h done =
        let pieces = h.pieces ++ Together (x ∷ inputs) ∷ [] in
        record {
          pieces = pieces;
          given = h.given;
          covers = subst (λ (ps : List (PieceOf M Setup Hosted Action)). Covers ps (filter is_for_node (jobs_in came))) (sym (append-nil pieces)) h.covers;
          done = pieces_end M tally marked mark h.pieces (Together (x ∷ inputs)) c b d h.done done;
        }

    pub given_all : (inputs : List (NodeInput M.Body M.Line)) (i : I) (p : Account M.Body) (c : CellOf M Setup Hosted Store U) (over : Bool) (k : I) (q : Account M.Body)
        (b d : CellOf M Setup Hosted Store U) → HasDoneGiven M tally marked mark gives may (gathered_piece inputs) i p c over k q b → HasTurnedAll M inputs b d
        → HasDoneGiven M tally marked mark gives may [] i p c over k q d
    given_all inputs i p c over k q b d h done =
        record { came = h.came; some = h.some; few = h.few; over_is = h.over_is; these = these_all h.came inputs i c k b d h.these done; heeds = h.heeds }

    module _ (came : List (Next (JobOf M Setup Hosted Action))) (i : I) (c : CellOf M Setup Hosted Store U) (k : I) (b : CellOf M Setup Hosted Store U) where
      module _ (x : Next (JobOf M Setup Hosted Action)) (l : I) (gave : gives k (waits_behind may came) x l) where
        -- what came next has its place in these pieces
        these_next : (old left pieces : List (PieceOf M Setup Hosted Action)) (d : CellOf M Setup Hosted Store U) → HasDoneThese M tally marked mark gives may came old i c k b
            → Covers (pieces ++ left) (filter is_for_node (jobs_in came) ++ filter is_for_node (jobs_in (x ∷ [])))
            → HasDoneAll M tally marked mark pieces c d → HasDoneThese M tally marked mark gives may (came ++ x ∷ []) left i c l d
        these_next old left pieces d h covers done =
            record {
              pieces = pieces;
              given = given_end gives may came x i k l h.given gave;
              covers = subst (λ (js : List (JobOf M Setup Hosted Action)). Covers (pieces ++ left) js) (sym (for_node_more came x)) covers;
              done = done;
            }

        -- what came next is no job for the node
        these_on : (left : List (PieceOf M Setup Hosted Action)) → HasDoneThese M tally marked mark gives may came left i c k b → filter is_for_node (jobs_in (x ∷ [])) ≡ []
            → HasDoneThese M tally marked mark gives may (came ++ x ∷ []) left i c l b
        these_on left h none =
            let jobs = filter is_for_node (jobs_in came) in
            these_next left left h.pieces b h
            (subst (λ (js : List (JobOf M Setup Hosted Action)). Covers (h.pieces ++ left) js) (sym (ap (λ (js : List (JobOf M Setup Hosted Action)). jobs ++ js) none ∙ append-nil jobs)) h.covers) h.done

      module _ (j : JobOf M Setup Hosted Action) (l : I) (gave : gives k (waits_behind may came) (next.Job j) l) (goes : is_end j ≡ false) where
        -- it is a job that is done by itself
        these_job : (d : CellOf M Setup Hosted Store U) → HasDoneThese M tally marked mark gives may came [] i c k b → is_idle j ≡ false → HasDone M tally marked mark j b d
            → HasDoneThese M tally marked mark gives may (came ++ next.Job j ∷ []) [] i c l d
        these_job d h acts done =
            let jobs = filter is_for_node (jobs_in came) in
            let pieces = h.pieces ++ Alone j ∷ [] in
            let before = subst (λ (ps : List (PieceOf M Setup Hosted Action)). Covers ps jobs) (append-nil h.pieces) h.covers in
            let covers = covers_end h.pieces (Alone j) jobs (j ∷ []) before refl in
            these_next (next.Job j) l gave [] [] pieces d h
            (subst (λ (z : List (PieceOf M Setup Hosted Action) × List (JobOf M Setup Hosted Action)). Covers z.0 z.1)
            (λ t. (sym (append-nil pieces) t, jobs ++ sym (for_node_one j goes acts) t)) covers)
            (pieces_end M tally marked mark h.pieces (Alone j) c b d h.done done)

        -- it is a job whose input comes after those that were gathered
        these_input : (inputs : List (NodeInput M.Body M.Line)) (y : NodeInput M.Body M.Line) → HasDoneThese M tally marked mark gives may came (gathered_piece inputs) i c k b → appended j ≡ Some y
            → HasDoneThese M tally marked mark gives may (came ++ next.Job j ∷ []) (gathered_piece (inputs ++ y ∷ [])) i c l b
        these_input inputs y h is =
            let jobs = filter is_for_node (jobs_in came) in
            let left = gathered_piece (inputs ++ y ∷ []) in
            let covers = covers_more h.pieces inputs jobs j y is h.covers in
            these_next (next.Job j) l gave (gathered_piece inputs) left h.pieces b h
            (subst (λ (js : List (JobOf M Setup Hosted Action)). Covers (h.pieces ++ left) (jobs ++ js)) (sym (for_node_one j goes (job_for_node j y is).1)) covers) h.done

    -- ---- a round, job by job

    -- This many things came in a round so far, none of which ends the worker, and they are done except what is
    -- gathered; and that may be processed together.
    pub record IsTaking (n : ℕ) (gathered : List (NodeInput M.Body M.Line)) (i : I) (p : Account M.Body) (c : CellOf M Setup Hosted Store U) (k : I) (q : Account M.Body)
        (d : CellOf M Setup Hosted Store U) : Type 0 where
      pub came : List (Next (JobOf M Setup Hosted Action))
      pub count : length came ≡ n
      pub goes_on : list_any is_over came ≡ false
      pub these : HasDoneThese M tally marked mark gives may came (gathered_piece gathered) i c k d
      pub ready : AreReady gathered d
      pub few : length gathered ≤ n
      pub heeds : Heeds (jobs_in came) p q

    pub home_after_taking : (n : ℕ) (gathered : List (NodeInput M.Body M.Line)) (i : I) (p : Account M.Body) (c : CellOf M Setup Hosted Store U) (k : I) (q : Account M.Body)
        (d : CellOf M Setup Hosted Store U) → IsTaking n gathered i p c k q d → IsSameHome c d
    home_after_taking n gathered i p c k q d h = home_after_these h.came (gathered_piece gathered) i c k d h.these

    pub taking_none : (gathered : List (NodeInput M.Body M.Line)) (i : I) (p : Account M.Body) (c : CellOf M Setup Hosted Store U) → gathered ≡ [] → IsTaking 0 gathered i p c i p c
    taking_none gathered i p c none =
        let short : length gathered ≡ 0 = ap length none in
        record {
          came = [];
          count = refl;
          goes_on = refl;
          these = these_open [] gathered i c i c none (record { pieces = []; given = refl; covers = refl; done = refl });
          ready = none_ready gathered c none;
          few = omega (arith, short);
          heeds = refl;
        }

    -- what comes next, for which the inbox might wait if nothing came before it
    gave_behind : (n : ℕ) (gathered : List (NodeInput M.Body M.Line)) (i : I) (p : Account M.Body) (c : CellOf M Setup Hosted Store U) (k : I) (q : Account M.Body)
        (d : CellOf M Setup Hosted Store U) (x : Next (JobOf M Setup Hosted Action)) (l : I) → (h : IsTaking n gathered i p c k q d) → gives k (may && nat_eq n 0) x l
        → gives k (waits_behind may h.came) x l
    gave_behind n gathered i p c k q d x l h gave = subst (λ (b : Bool). gives k b x l) (first_waits may h.came n h.count) gave

    -- a round ends after what came so far
    pub taking_stop : (n : ℕ) (gathered : List (NodeInput M.Body M.Line)) (i : I) (p : Account M.Body) (c : CellOf M Setup Hosted Store U) (k : I) (q : Account M.Body)
        (d : CellOf M Setup Hosted Store U) → IsTaking n gathered i p c k q d → 1 ≤ n → n ≤ batch_limit
        → HasDoneGiven M tally marked mark gives may (gathered_piece gathered) i p c false k q d
    taking_stop n gathered i p c k q d h some few =
        let count = h.count in
        let most : length h.came ≤ batch_limit = omega (arith, count, few) in
        record { came = h.came; some = omega (arith, count, some); few = most; over_is = sym h.goes_on; these = h.these; heeds = h.heeds }

    -- a round ends with what came last, which is no job for the node
    pub taking_end : (n : ℕ) (gathered : List (NodeInput M.Body M.Line)) (i : I) (p : Account M.Body) (c : CellOf M Setup Hosted Store U) (k : I) (q : Account M.Body)
        (d : CellOf M Setup Hosted Store U) (x : Next (JobOf M Setup Hosted Action)) (l : I) (over : Bool) → IsTaking n gathered i p c k q d → n < batch_limit → gives k (may && nat_eq n 0) x l
        → list_any is_over (x ∷ []) ≡ over → filter is_for_node (jobs_in (x ∷ [])) ≡ [] → Heeds (jobs_in (x ∷ [])) q q
        → HasDoneGiven M tally marked mark gives may (gathered_piece gathered) i p c over l q d
    taking_end n gathered i p c k q d x l over h some gave ends none heeds =
        let count = h.count in
        let long : length (h.came ++ x ∷ []) ≡ length h.came + 1 = length_push h.came x in
        let most : length (h.came ++ x ∷ []) ≤ batch_limit = omega (arith, long, count, some) in
        record {
          came = h.came ++ x ∷ [];
          some = omega (arith, long);
          few = most;
          over_is = sym (list_any-append is_over h.came (x ∷ []) ∙ (λ t. h.goes_on t || ends t));
          these = these_on h.came i c k d x l (gave_behind n gathered i p c k q d x l h gave) (gathered_piece gathered) h.these none;
          heeds = heeds_next h.came x p q q h.heeds heeds;
        }

    module _ (n m : ℕ) (i : I) (p : Account M.Body) (c : CellOf M Setup Hosted Store U) (k : I) (q : Account M.Body) (j : JobOf M Setup Hosted Action)
        (before : List (NodeInput M.Body M.Line)) (b : CellOf M Setup Hosted Store U) (l : I) (r : Account M.Body) (after : List (NodeInput M.Body M.Line))
        (d : CellOf M Setup Hosted Store U) (next_is : m ≡ n + 1) (room : n < batch_limit) (h : IsTaking n before i p c k q b)
        (given : gives k (may && nat_eq n 0) (next.Job j) l) (goes : is_end j ≡ false) (heeds : HeedsJob j (counted (is_told j) q) r) where
      gave : gives k (waits_behind may h.came) (next.Job j) l
      gave = gave_behind n before i p c k q b (next.Job j) l h given

      -- it is done after all that was gathered
      behind_these : (e : CellOf M Setup Hosted Store U) → after ≡ [] → is_idle j ≡ false → HasTurnedAll M before b e → HasDone M tally marked mark j e d
          → HasDoneThese M tally marked mark gives may (h.came ++ next.Job j ∷ []) (gathered_piece after) i c l d
      behind_these e none acts turned done =
          these_open (h.came ++ next.Job j ∷ []) after i c l d none (these_job h.came i c k e j l gave goes d (these_all h.came before i c k b e h.these turned) acts done)

      idle_these : after ≡ before → is_idle j ≡ true → HasDone M tally marked mark j b d
          → HasDoneThese M tally marked mark gives may (h.came ++ next.Job j ∷ []) (gathered_piece after) i c l d
      idle_these is idle done =
          let same = idle_same M tally marked mark j b d idle done in
          subst (λ (z : List (NodeInput M.Body M.Line) × CellOf M Setup Hosted Store U). HasDoneThese M tally marked mark gives may (h.came ++ next.Job j ∷ []) (gathered_piece z.0) i c l z.1)
          (λ t. (sym is t, sym same t)) (these_on h.came i c k b (next.Job j) l gave (gathered_piece before) h.these (for_node_idle j goes idle))

      taking_more : HasDoneThese M tally marked mark gives may (h.came ++ next.Job j ∷ []) (gathered_piece after) i c l d → AreReady after d → length after ≤ length before + 1
          → IsTaking m after i p c l r d
      taking_more these ready short =
          let count = h.count in
          let few = h.few in
          let long : length (h.came ++ next.Job j ∷ []) ≡ length h.came + 1 = length_push h.came (next.Job j) in
          record {
            came = h.came ++ next.Job j ∷ [];
            count = omega (arith, long, count, next_is);
            goes_on = list_any-append is_over h.came (next.Job j ∷ []) ∙ (λ t. h.goes_on t || over_end j false goes t);
            these = these;
            ready = ready;
            few = omega (arith, short, few, next_is);
            heeds = heeds_next h.came (next.Job j) p q r h.heeds (heeds_one j q r goes heeds);
          }

      add_taking : (x : NodeInput M.Body M.Line) → appended j ≡ Some x → leads_in b ≡ true → HasAdded M tally x before b after d → IsTaking m after i p c l r d
      add_taking x is leads taken =
          let few = h.few in
          ⊎_elim
          (λ (s : (after ≡ before ++ x ∷ []) × (d ≡ b)).
          let long : length after ≡ length before + 1 = ap length s.0 ∙ length_push before x in
          taking_more
          (subst (λ (z : List (NodeInput M.Body M.Line) × CellOf M Setup Hosted Store U). HasDoneThese M tally marked mark gives may (h.came ++ next.Job j ∷ []) (gathered_piece z.0) i c l z.1)
          (λ t. (sym s.0 t, sym s.1 t)) (these_input h.came i c k b j l gave goes before x h.these is))
          (ready_more before after x b d s.0 s.1 leads (job_appends j x is).0 (omega (arith, few, room)) h.ready) (omega (arith, long)))
          (λ (s : (after ≡ []) × (e : CellOf M Setup Hosted Store U) × HasTurnedAll M before b e × HasHadTurn M tally e x d).
          let short : length after ≡ 0 = ap length s.0 in
          taking_more (behind_these s.1 s.0 (job_for_node j x is).1 s.2 (job_turned M tally marked mark j x s.1 d is s.3)) (none_ready after d s.0) (omega (arith, short)))
          taken

      behind_taking : (idle : Bool) → is_idle j ≡ idle → HasDoneBehind M tally marked mark idle j before b after d → IsTaking m after i p c l r d
      behind_taking true is taken =
          let long : length after ≡ length before = ap length taken.0 in
          taking_more (idle_these taken.0 is taken.1) (ready_still before after b d taken.0 (idle_same M tally marked mark j b d is taken.1) h.ready) (omega (arith, long))
      behind_taking false is taken =
          let short : length after ≡ 0 = ap length taken.0 in
          taking_more (behind_these taken.1 taken.0 is taken.2 taken.3) (none_ready after d taken.0) (omega (arith, short))

      leading_taking : (o : Option (NodeInput M.Body M.Line)) → appended j ≡ o → leads_in b ≡ true → HasTakenLeading M tally marked mark o j before b after d → IsTaking m after i p c l r d
      leading_taking (Some x) is leads taken = add_taking x is leads taken
      leading_taking None is leads taken = behind_taking (is_idle j) refl taken

      -- at a node that does not lead, nothing is gathered
      alone_these : (idle : Bool) → is_idle j ≡ idle → before ≡ [] → after ≡ before → HasDone M tally marked mark j b d
          → HasDoneThese M tally marked mark gives may (h.came ++ next.Job j ∷ []) (gathered_piece after) i c l d
      alone_these true is none same done = idle_these same is done
      alone_these false is none same done = behind_these b (same ∙ none) is (subst (λ (xs : List (NodeInput M.Body M.Line)). HasTurnedAll M xs b b) (sym none) refl) done

      where_taking : (leads : Bool) → leads_in b ≡ leads → HasTakenWhere M tally marked mark leads j before b after d → IsTaking m after i p c l r d
      where_taking true is taken = leading_taking (appended j) refl is taken
      where_taking false is taken =
          let none : before ≡ [] = none_gathered before b is h.ready in
          let long : length after ≡ length before = ap length taken.0 in
          taking_more (alone_these (is_idle j) refl none taken.0 taken.1) (none_ready after d (taken.0 ∙ none)) (omega (arith, long))

      -- one more job was taken up
      pub taking_next : HasTakenUp M tally marked mark j before b after d → IsTaking m after i p c l r d
      taking_next taken = where_taking (leads_in b) refl taken
