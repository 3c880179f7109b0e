-- That pieces hold jobs.
use Rattle.std.proofs.Common.{◌≡◌, List, [], ◌∷◌, ◌++◌, map, Some, refl, sym, ap, ◌∙◌, subst}
use Rattle.std.proofs.lemmas.List.{append-nil, append_assoc, map-append}
use Rattle.world_views.specs.Inputs.{NodeInput}
use Rattle.node_threads.specs.declared.job.Job.{Job}
use Rattle.node_threads.specs.Taking.{Covers, Holds, Piece, gathered_piece}
use Rattle.node_threads.specs.Taking.Piece.{Together}
use Rattle.node_threads.specs.Together.{appended}

module _ {H A L T P S C E : Type 0} where
  -- these pieces hold these jobs, and one more piece holds those that come after
  pub covers_end : (ps : List (Piece (Job H A L T P S C E) (NodeInput C L))) (p : Piece (Job H A L T P S C E) (NodeInput C L)) (jobs more : List (Job H A L T P S C E))
      → Covers ps jobs → Holds p more → Covers (ps ++ p ∷ []) (jobs ++ more)
  covers_end [] p jobs more none holds = (more, [], ap (λ l. l ++ more) none ∙ sym (append-nil more), holds, refl)
  covers_end (q ∷ ps) p jobs more h holds =
      (h.0, h.1 ++ more, ap (λ l. l ++ more) h.2 ∙ append_assoc h.0 h.1 more, h.3, covers_end ps p h.1 more h.4 holds)

  -- the jobs of the last piece come after those of the others
  record AreSplit (ps : List (Piece (Job H A L T P S C E) (NodeInput C L))) (p : Piece (Job H A L T P S C E) (NodeInput C L)) (jobs : List (Job H A L T P S C E)) : Type 0 where
    pub front : List (Job H A L T P S C E)
    pub back : List (Job H A L T P S C E)
    pub split : jobs ≡ front ++ back
    pub covers : Covers ps front
    pub holds : Holds p back

  covers_split : (ps : List (Piece (Job H A L T P S C E) (NodeInput C L))) (p : Piece (Job H A L T P S C E) (NodeInput C L)) (jobs : List (Job H A L T P S C E))
      → Covers (ps ++ p ∷ []) jobs → AreSplit ps p jobs
  covers_split [] p jobs h =
      let all : jobs ≡ h.0 = h.2 ∙ (ap (λ l. h.0 ++ l) h.4 ∙ append-nil h.0) in
      record { front = []; back = jobs; split = refl; covers = refl; holds = subst (λ (l : List (Job H A L T P S C E)). Holds p l) (sym all) h.3 }
  covers_split (q ∷ ps) p jobs h =
      let rest = covers_split ps p h.1 h.4 in
      record {
        front = h.0 ++ rest.front;
        back = rest.back;
        split = h.2 ∙ (ap (λ l. h.0 ++ l) rest.split ∙ sym (append_assoc h.0 rest.front rest.back));
        covers = (h.0, rest.front, refl, h.3, rest.covers);
        holds = rest.holds;
      }

  -- one more job, whose input comes after those that were gathered
  pub covers_more : (ps : List (Piece (Job H A L T P S C E) (NodeInput C L))) (inputs : List (NodeInput C L)) (jobs : List (Job H A L T P S C E)) (j : Job H A L T P S C E) (x : NodeInput C L)
      → appended j ≡ Some x → Covers (ps ++ gathered_piece inputs) jobs → Covers (ps ++ gathered_piece (inputs ++ x ∷ [])) (jobs ++ j ∷ [])
  covers_more ps [] jobs j x is h =
      let before = subst (λ (l : List (Piece (Job H A L T P S C E) (NodeInput C L))). Covers l jobs) (append-nil ps) h in
      covers_end ps (Together (x ∷ [])) jobs (j ∷ []) before (ap (λ o. o ∷ []) is)
  covers_more ps (y ∷ inputs) jobs j x is h =
      let all = y ∷ inputs in
      let s = covers_split ps (Together all) jobs h in
      let same : jobs ++ j ∷ [] ≡ s.front ++ (s.back ++ j ∷ []) = ap (λ l. l ++ j ∷ []) s.split ∙ append_assoc s.front s.back (j ∷ []) in
      let holds : map appended (s.back ++ j ∷ []) ≡ map Some (all ++ x ∷ []) =
      map-append appended s.back (j ∷ []) ∙ (ap (λ l. l ++ appended j ∷ []) s.holds ∙ (ap (λ o. map Some all ++ o ∷ []) is ∙ sym (map-append Some all (x ∷ [])))) in
      subst (λ (l : List (Job H A L T P S C E)). Covers (ps ++ Together (all ++ x ∷ []) ∷ []) l) (sym same)
      (covers_end ps (Together (all ++ x ∷ [])) s.front (s.back ++ j ∷ []) s.covers holds)
