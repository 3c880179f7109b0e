-- That what comes is served, over any number of rounds.
use Rattle.std.proofs.Common.{◌≡◌, ◌≤◌, ◌+◌, ◌||◌, ℕ, zero, suc, Bool, true, false, not, List, [], ◌∷◌, ◌++◌, length, length-append, Option, refl, sym, ap, ◌∙◌, subst, append_assoc, append-nil, arith}
use Rattle.std.proofs.lemmas.List.Elements.{filter-append}
use Rattle.std.proofs.lemmas.List.Folds.{list_any-append}
use Rattle.std.specs.List.{filter, list_any}
use Rattle.wire_bytes.specs.declared.mark.Mark.{Mark}
use Rattle.raft_node.specs.Machine.{Machine}
use Rattle.world_views.specs.Inputs.{NodeInput}
use Rattle.node_cells.specs.Turns.{CellOf}
use Rattle.node_cells.specs.Upstreams.{Tally}
use Rattle.node_threads.specs.declared.inflow.Next.{Next}
use Rattle.node_threads.specs.declared.inflow.Next.TheVariants as next
use Rattle.node_threads.specs.declared.job.Job.{Job}
use Rattle.node_threads.specs.declared.worker_loop.requests.Request.{Request}
use Rattle.node_threads.specs.Fates.{EachHasOneFate, counted_by_all, is_restart, requests_by}
use Rattle.node_threads.specs.Inflows.{Given, jobs_in}
use Rattle.node_threads.specs.Served.{ActOf, HasDoneRounds, HasServed, HasServedRounds, RequestsAreCounted, StandIn, WhatComesIsServed, WhatStandsIsServed, asked_in, pieces_in}
use Rattle.node_threads.specs.Taking.{Covers, HasDoneRound, JobOf, Piece, PieceOf, is_for_node, is_over}
use Rattle.node_threads.specs.Waiting.{Account}
use Rattle.node_threads.proofs.Acted.{HasGone, acted_both, asked_both, gone_round, pieces_both, works_ask, works_done, works_of, works_pieces}
use Rattle.node_threads.proofs.Inflows.{given_any}
use Rattle.node_threads.proofs.Fated.{counted_both, counted_fate, counted_heeding, fate_none, fates_both, fates_by, or_false, requests_both}

module _ {I J : Type 0} (gives : I → Bool → Next J → I → Type 0) where
  given_both : (xs ys : List (Next J)) (i j k : I) → Given gives i xs j → Given gives j ys k → Given gives i (xs ++ ys) k
  given_both [] ys i j k h more = subst (λ (z : I). Given gives z ys k) h more
  given_both (x ∷ xs) ys i j k h more = (h.0, h.1, h.2, given_both xs ys h.1 j k h.3 more)

  -- the jobs that are in an inbox come first
  stand_first : (jobs : List J) (came : List (Next J)) (i k : I) → StandIn gives jobs i → Given gives i came k → length jobs ≤ length came
      → (later : List J) × (jobs_in came ≡ jobs ++ later)
  stand_first [] came i k h given few = (jobs_in came, refl)
  stand_first (y ∷ jobs) [] i k h given few = absurd (omega (arith, few))
  stand_first (y ∷ jobs) (x ∷ came) i k h given few =
      let one = h given.0 x given.1 given.2 in
      let rest = stand_first jobs came given.1 k one.1 given.3 (omega (arith, few)) in
      (rest.0, ap (λ (z : Next J). jobs_in (z ∷ came)) one.0 ∙ ap (λ l. y ∷ l) rest.1)

jobs_both : {J : Type 0} (xs ys : List (Next J)) → jobs_in (xs ++ ys) ≡ jobs_in xs ++ jobs_in ys
jobs_both [] ys = refl
jobs_both (next.Job j ∷ xs) ys = ap (λ l. j ∷ l) (jobs_both xs ys)
jobs_both (next.Nothing ∷ xs) ys = jobs_both xs ys
jobs_both (next.Over ∷ xs) ys = jobs_both xs ys

-- a worker that goes on was not asked to end
goes_still : (over : Bool) → true ≡ not over → over ≡ false
goes_still true is = absurd (cc is)
goes_still false is = refl

module _ {H A L T P S C E : Type 0} where
  covers_both : (ps qs : List (Piece (Job H A L T P S C E) (NodeInput C L))) (jobs more : List (Job H A L T P S C E)) → Covers ps jobs → Covers qs more → Covers (ps ++ qs) (jobs ++ more)
  covers_both [] qs jobs more h k = subst (λ (l : List (Job H A L T P S C E)). Covers qs (l ++ more)) (sym h) k
  covers_both (p ∷ ps) qs jobs more h k =
      (h.0, h.1 ++ more, ap (λ l. l ++ more) h.2 ∙ append_assoc h.0 h.1 more, h.3, covers_both ps qs h.1 more h.4 k)

module _ (M : Machine) {Setup Hosted Store U : Type 0} (tally : U → Tally) (marked : M.Body → Option Mark) (mark : Mark → M.Body) {Action I : Type 0}
    (gives : I → Bool → Next (JobOf M Setup Hosted Action) → I → Type 0) where
  served_none : (i : I) (a : Account M.Body) (c : CellOf M Setup Hosted Store U) → HasServed M tally marked mark gives [] i a c i a c
  served_none i a c = record { given = refl; acts = []; acted = refl; jobs = refl; requests = fate_none a.requests a.requests refl; done_is = refl }

  -- one round
  served_round : (may : Bool) (i : I) (a : Account M.Body) (c : CellOf M Setup Hosted Store U) (goes_on leaves : Bool) (k : I) (b : Account M.Body) (d : CellOf M Setup Hosted Store U)
      → (h : HasDoneRound M tally marked mark gives may i a c goes_on leaves k b d) → HasServed M tally marked mark gives h.jobs.came i a c k b d
  served_round may i a c goes_on leaves k b d h =
      let came = h.jobs.came in
      let these = h.jobs.these in
      let js = jobs_in came in
      let works : List (ActOf M Setup Hosted Action) = works_of these.pieces in
      let rest : HasGone M tally marked mark Action h.account h.between b d = gone_round M tally marked mark Action h.forwarded h.account h.between leaves b d h.rest in
      let all : pieces_in (works ++ rest.acts) ≡ these.pieces ++ [] = pieces_both works rest.acts ∙ (λ t. works_pieces these.pieces t ++ rest.none t) in
      let asks : asked_in (works ++ rest.acts) ≡ asked_in rest.acts = asked_both works rest.acts ∙ ap (λ l. l ++ asked_in rest.acts) (works_ask these.pieces) in
      let both = fates_both (requests_by a.done js) [] [] (asked_in rest.acts) (list_any is_restart js) false a.requests h.account.requests b.requests (fates_by js a h.account h.jobs.heeds) rest.fates in
      record {
        given = given_any gives may came i k these.given;
        acts = works ++ rest.acts;
        acted = acted_both M tally marked mark works rest.acts c h.between d (works_done M tally marked mark these.pieces c h.between these.done) rest.acted;
        jobs = subst (λ (ps : List (PieceOf M Setup Hosted Action)). Covers ps (filter is_for_node js)) (sym all) these.covers;
        requests = subst (λ (z : List (Request M.Body) × List (Request M.Body) × Bool). EachHasOneFate z.0 z.1 z.2 a.requests b.requests)
            (λ t. (append-nil (requests_by a.done js) t, sym asks t, or_false (list_any is_restart js) t)) both;
        done_is = rest.done_is ∙ counted_heeding js a h.account h.jobs.heeds;
      }

  -- what came, and what came after it
  served_both : (one two : List (Next (JobOf M Setup Hosted Action))) (i : I) (a : Account M.Body) (c : CellOf M Setup Hosted Store U) (j : I) (m : Account M.Body)
      (e : CellOf M Setup Hosted Store U) (k : I) (b : Account M.Body) (d : CellOf M Setup Hosted Store U) → HasServed M tally marked mark gives one i a c j m e
      → HasServed M tally marked mark gives two j m e k b d → HasServed M tally marked mark gives (one ++ two) i a c k b d
  served_both one two i a c j m e k b d h g =
      let js = jobs_in one in
      let ks = jobs_in two in
      let all : jobs_in (one ++ two) ≡ js ++ ks = jobs_both one two in
      let told = subst (λ (n : ℕ). EachHasOneFate (requests_by n ks) (asked_in g.acts) (list_any is_restart ks) m.requests b.requests) h.done_is g.requests in
      let fates = fates_both (requests_by a.done js) (asked_in h.acts) (requests_by (counted_by_all js a.done) ks) (asked_in g.acts) (list_any is_restart js) (list_any is_restart ks)
      a.requests m.requests b.requests h.requests told in
      let for_node : filter is_for_node (jobs_in (one ++ two)) ≡ filter is_for_node js ++ filter is_for_node ks = ap (filter is_for_node) all ∙ filter-append is_for_node js ks in
      let requests : requests_by a.done (jobs_in (one ++ two)) ≡ requests_by a.done js ++ requests_by (counted_by_all js a.done) ks =
      ap (requests_by a.done) all ∙ requests_both js ks a.done in
      let restarted : list_any is_restart (jobs_in (one ++ two)) ≡ (list_any is_restart js || list_any is_restart ks) = ap (list_any is_restart) all ∙ list_any-append is_restart js ks in
      record {
        given = given_both gives one two i j k h.given g.given;
        acts = h.acts ++ g.acts;
        acted = acted_both M tally marked mark h.acts g.acts c e d h.acted g.acted;
        jobs = subst (λ (z : List (PieceOf M Setup Hosted Action) × List (JobOf M Setup Hosted Action)). Covers z.0 z.1) (λ t. (sym (pieces_both h.acts g.acts) t, sym for_node t))
            (covers_both (pieces_in h.acts) (pieces_in g.acts) (filter is_for_node js) (filter is_for_node ks) h.jobs g.jobs);
        requests = subst (λ (z : List (Request M.Body) × List (Request M.Body) × Bool). EachHasOneFate z.0 z.1 z.2 a.requests b.requests)
            (λ t. (sym requests t, sym (asked_both h.acts g.acts) t, sym restarted t)) fates;
        done_is = g.done_is ∙ ap (counted_by_all ks) h.done_is ∙ sym (ap (λ l. counted_by_all l a.done) all ∙ counted_both js ks a.done);
      }

  pub served_rounds : (n : ℕ) (may : Bool) (i : I) (a : Account M.Body) (c : CellOf M Setup Hosted Store U) (goes_on leaves : Bool) (k : I) (b : Account M.Body)
      (d : CellOf M Setup Hosted Store U) → HasDoneRounds M tally marked mark gives n may i a c goes_on leaves k b d → HasServedRounds M tally marked mark gives n i a c goes_on k b d
  served_rounds zero may i a c goes_on leaves k b d h =
      record {
        came = [];
        some = omega arith;
        few = omega arith;
        goes_on_is = h.0;
        served = subst (λ (z : I × Account M.Body × CellOf M Setup Hosted Store U). HasServed M tally marked mark gives [] i a c z.0 z.1 z.2) (λ t. (sym h.2 t, sym h.3 t, sym h.4 t))
            (served_none i a c);
      }
  served_rounds (suc n) may i a c goes_on leaves k b d h =
      let before = served_rounds n may i a c true h.0 h.1 h.2 h.3 h.4 in
      let last = h.5 in
      let came = last.jobs.came in
      let long : length (before.came ++ came) ≡ length before.came + length came = length-append before.came came in
      let some = before.some in
      let few = before.few in
      let more = last.jobs.some in
      let most = last.jobs.few in
      let goes : list_any is_over before.came ≡ false = goes_still (list_any is_over before.came) before.goes_on_is in
      let over : list_any is_over (before.came ++ came) ≡ last.over = list_any-append is_over before.came came ∙ ap (λ o. o || list_any is_over came) goes ∙ sym last.jobs.over_is in
      record {
        came = before.came ++ came;
        some = omega (arith, long, some, more);
        few = omega (arith, long, few, most);
        goes_on_is = last.goes_on_is ∙ ap not (sym over);
        served = served_both before.came came i a c h.1 h.2 h.3 k b d before.served (served_round h.0 h.1 h.2 h.3 goes_on leaves k b d last);
      }

  -- at least as many things came as were in the inbox
  pub served_standing : (jobs : List (JobOf M Setup Hosted Action)) (n : ℕ) (may : Bool) (i : I) (a : Account M.Body) (c : CellOf M Setup Hosted Store U) (goes_on leaves : Bool) (k : I)
      (b : Account M.Body) (d : CellOf M Setup Hosted Store U) → StandIn gives jobs i → length jobs ≤ n → HasDoneRounds M tally marked mark gives n may i a c goes_on leaves k b d
      → (came : List (Next (JobOf M Setup Hosted Action))) × (later : List (JobOf M Setup Hosted Action)) × (jobs_in came ≡ jobs ++ later) × HasServed M tally marked mark gives came i a c k b d
  served_standing jobs n may i a c goes_on leaves k b d stand few h =
      let all = served_rounds n may i a c goes_on leaves k b d h in
      let some = all.some in
      let first = stand_first gives jobs all.came i k stand all.served.given (omega (arith, few, some)) in
      (all.came, first.0, first.1, all.served)

-- ---- the laws

pub what_comes : (M : Machine) (Setup Hosted Store : Type 0) {U : Type 0} (tally : U → Tally) (marked : M.Body → Option Mark) (mark : Mark → M.Body) {Action I : Type 0}
    (gives : I → Bool → Next (JobOf M Setup Hosted Action) → I → Type 0) → WhatComesIsServed M Setup Hosted Store tally marked mark gives
what_comes M Setup Hosted Store tally marked mark gives = served_rounds M tally marked mark gives

pub what_stands : (M : Machine) (Setup Hosted Store : Type 0) {U : Type 0} (tally : U → Tally) (marked : M.Body → Option Mark) (mark : Mark → M.Body) {Action I : Type 0}
    (gives : I → Bool → Next (JobOf M Setup Hosted Action) → I → Type 0) → WhatStandsIsServed M Setup Hosted Store tally marked mark gives
what_stands M Setup Hosted Store tally marked mark gives = served_standing M tally marked mark gives

pub requests_counted : (M : Machine) (Setup Hosted Store : Type 0) {U : Type 0} (tally : U → Tally) (marked : M.Body → Option Mark) (mark : Mark → M.Body) {Action I : Type 0}
    (gives : I → Bool → Next (JobOf M Setup Hosted Action) → I → Type 0) → RequestsAreCounted M Setup Hosted Store tally marked mark gives
requests_counted M Setup Hosted Store tally marked mark gives came i a c k b d s number =
    counted_fate (requests_by a.done (jobs_in came)) (asked_in s.acts) (list_any is_restart (jobs_in came)) a.requests b.requests s.requests number
