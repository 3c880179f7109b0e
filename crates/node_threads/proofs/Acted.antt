-- What a worker does with its node in a round, after its jobs, as a list of acts.
use Rattle.std.proofs.Common.{◌≡◌, ◌↔◌, inl, inr, ⊎_elim, ℕ, zero, suc, Bool, true, false, List, [], ◌∷◌, ◌++◌, take, Option, refl, sym, ap, ◌∙◌, subst, append_assoc, append-nil}
use Rattle.std.specs.List.{AllByRecursion}
use Rattle.wire_bytes.specs.declared.mark.Mark.{Mark}
use Rattle.raft_log.specs.Batches.{batch_limit}
use Rattle.raft_node.specs.Machine.{Machine}
use Rattle.raft_node.specs.declared.input.Input.TheVariants as input
use Rattle.world_views.specs.Inputs.{NodeInput}
use Rattle.node_cells.specs.Turns.{CellOf}
use Rattle.node_cells.specs.Upstreams.{Tally}
use Rattle.node_threads.specs.declared.worker_loop.requests.Request.{Request}
use Rattle.node_threads.specs.Asking.{term_in}
use Rattle.node_threads.specs.Fates.{EachHasOneFate}
use Rattle.node_threads.specs.Forwarding.{is_left}
use Rattle.node_threads.specs.Requests.{request}
use Rattle.node_threads.specs.Served.{Act, ActOf, HasActed, HasLookedOn, asked_in, pieces_in, turns_request}
use Rattle.node_threads.specs.Served.Act.{Asks, Goes, Looks, Works}
use Rattle.node_threads.specs.Taking.{HasDoneAll, Piece, PieceOf}
use Rattle.node_threads.specs.Waiting.{Account, AsksFirst, HaveComeBack}
use Rattle.node_threads.specs.Work.{AsksBefore, AsksWhere, Deed, Does, HasAskedEach, HasAskedFirstOf, HasAskedOn, HasAskedOne, HasAskedTogether, HasAskedUpTo, HasGoneRound, HasHadTurn, applies, beats_on, takes_but, takes_unless}
use Rattle.node_threads.proofs.Fated.{all_both, fate_back, fate_first, fate_none, fate_together, fates_both}

module _ {J B L : Type 0} where
  pub pieces_both : (xs ys : List (Act J B L)) → pieces_in (xs ++ ys) ≡ pieces_in xs ++ pieces_in ys
  pieces_both [] ys = refl
  pieces_both (Works p ∷ xs) ys = ap (λ l. p ∷ l) (pieces_both xs ys)
  pieces_both (Asks requests ∷ xs) ys = pieces_both xs ys
  pieces_both (Goes e ∷ xs) ys = pieces_both xs ys
  pieces_both (Looks ∷ xs) ys = pieces_both xs ys

  pub asked_both : (xs ys : List (Act J B L)) → asked_in (xs ++ ys) ≡ asked_in xs ++ asked_in ys
  asked_both [] ys = refl
  asked_both (Works p ∷ xs) ys = asked_both xs ys
  asked_both (Asks requests ∷ xs) ys = ap (λ l. requests ++ l) (asked_both xs ys) ∙ sym (append_assoc requests (asked_in xs) (asked_in ys))
  asked_both (Goes e ∷ xs) ys = asked_both xs ys
  asked_both (Looks ∷ xs) ys = asked_both xs ys

-- ---- what is no request

abbrev AskNothing : {B L : Type 0} → List (Deed B L) → Type 0
AskNothing {B} {L} es = AllByRecursion (λ (e : Deed B L). turns_request e ≡ false) es

module _ (B L : Type 0) where
  unless_nothing : (left : Bool) (place : ℕ) → AskNothing (takes_unless {B = B} {L = L} left place)
  unless_nothing true place = tt
  unless_nothing false place = (refl, tt)

  takes_nothing : (left : Option ℕ) (n : ℕ) → AskNothing (takes_but {B = B} {L = L} left n)
  takes_nothing left zero = tt
  takes_nothing left (suc n) =
      all_both (λ (e : Deed B L). turns_request e ≡ false) (takes_but left n) (takes_unless (is_left left n) n) (takes_nothing left n) (unless_nothing (is_left left n) n)

  applies_nothing : (n : ℕ) → AskNothing (applies {B = B} {L = L} n)
  applies_nothing zero = tt
  applies_nothing (suc n) = (refl, applies_nothing n)

  beats_nothing : (has_news : Bool) → AskNothing (beats_on {B = B} {L = L} has_news)
  beats_nothing true = (refl, tt)
  beats_nothing false = tt

-- ---- the jobs of a round

module _ {J B L : Type 0} where
  pub works_of : List (Piece J (NodeInput B L)) → List (Act J B L)
  works_of [] = []
  works_of (p ∷ ps) = Works p ∷ works_of ps

  pub works_pieces : (ps : List (Piece J (NodeInput B L))) → pieces_in (works_of ps) ≡ ps
  unfolding works_of
  works_pieces [] = refl
  works_pieces (p ∷ ps) = ap (λ l. p ∷ l) (works_pieces ps)

  pub works_ask : (ps : List (Piece J (NodeInput B L))) → asked_in (works_of ps) ≡ []
  unfolding works_of
  works_ask [] = refl
  works_ask (p ∷ ps) = works_ask ps

module _ (M : Machine) {Setup Hosted Store U : Type 0} (tally : U → Tally) (marked : M.Body → Option Mark) (mark : Mark → M.Body) {Action : Type 0} where
  pub acted_both : (xs ys : List (ActOf M Setup Hosted Action)) (c b d : CellOf M Setup Hosted Store U) → HasActed M tally marked mark xs c b → HasActed M tally marked mark ys b d
      → HasActed M tally marked mark (xs ++ ys) c d
  acted_both [] ys c b d h more = subst (λ (z : CellOf M Setup Hosted Store U). HasActed M tally marked mark ys z d) h more
  acted_both (x ∷ xs) ys c b d h more = (h.0, h.1, acted_both xs ys h.0 b d h.2 more)

  pub works_done : (ps : List (PieceOf M Setup Hosted Action)) (c d : CellOf M Setup Hosted Store U) → HasDoneAll M tally marked mark ps c d → HasActed M tally marked mark (works_of ps) c d
  unfolding works_of
  works_done [] c d h = h
  works_done (p ∷ ps) c d h = (h.0, h.1, works_done ps h.0 d h.2)

module _ (M : Machine) {Setup Hosted Store U : Type 0} (tally : U → Tally) where
  may_turn : (body : M.Body) (may : Bool) (c d : CellOf M Setup Hosted Store U) → AsksWhere M tally body may true c d → HasHadTurn M tally c (input.Ask body) d
  may_turn body true c d h = h
  may_turn body false c d h = absurd h

  may_not : (body : M.Body) (may : Bool) (c d : CellOf M Setup Hosted Store U) → AsksWhere M tally body may false c d → d ≡ c
  may_not body true c d h = absurd h
  may_not body false c d h = h

module _ (M : Machine) {Setup Hosted Store U : Type 0} (tally : U → Tally) (marked : M.Body → Option Mark) (mark : Mark → M.Body) (Action : Type 0) where
  -- -- after the jobs

  -- Things were done with the node that are no jobs. Each request that waited was asked by them, or waits, and no note was taken up.
  pub record HasGone (a : Account M.Body) (c : CellOf M Setup Hosted Store U) (b : Account M.Body) (d : CellOf M Setup Hosted Store U) : Type 0 where
    pub acts : List (ActOf M Setup Hosted Action)
    pub acted : HasActed M tally marked mark acts c d
    pub none : pieces_in acts ≡ []
    pub fates : EachHasOneFate [] (asked_in acts) false a.requests b.requests
    pub done_is : b.done ≡ a.done

  gone_both : (a : Account M.Body) (c : CellOf M Setup Hosted Store U) (m : Account M.Body) (e : CellOf M Setup Hosted Store U) (b : Account M.Body) (d : CellOf M Setup Hosted Store U)
      → HasGone a c m e → HasGone m e b d → HasGone a c b d
  gone_both a c m e b d one two =
      record {
        acts = one.acts ++ two.acts;
        acted = acted_both M tally marked mark one.acts two.acts c e d one.acted two.acted;
        none = pieces_both one.acts two.acts ∙ (λ i. one.none i ++ two.none i);
        fates = subst (λ (l : List (Request M.Body)). EachHasOneFate [] l false a.requests b.requests) (sym (asked_both one.acts two.acts))
            (fates_both [] (asked_in one.acts) [] (asked_in two.acts) false false a.requests m.requests b.requests one.fates two.fates);
        done_is = two.done_is ∙ one.done_is;
      }

  gone_none : (a : Account M.Body) (c : CellOf M Setup Hosted Store U) (b : Account M.Body) (d : CellOf M Setup Hosted Store U) → b ≡ a → d ≡ c → HasGone a c b d
  gone_none a c b d same still =
      record {
        acts = [];
        acted = still;
        none = refl;
        fates = fate_none a.requests b.requests (ap (λ (z : Account M.Body). z.requests) same);
        done_is = ap (λ (z : Account M.Body). z.done) same;
      }

  gone_back : (a b : Account M.Body) (c : CellOf M Setup Hosted Store U) → HaveComeBack a b → HasGone a c b c
  gone_back a b c h = record { acts = []; acted = refl; none = refl; fates = fate_back a b h; done_is = h.done_is }

  gone_does : (es : List (Deed M.Body M.Line)) (a : Account M.Body) (c d : CellOf M Setup Hosted Store U) → AskNothing es → Does M tally es c d → HasGone a c a d
  gone_does [] a c d nothing h = gone_none a c a d refl h
  gone_does (e ∷ es) a c d nothing h =
      let rest = gone_does es a h.0 d nothing.1 h.2 in
      record { acts = Goes e ∷ rest.acts; acted = (h.0, (nothing.0, h.1), rest.acted); none = rest.none; fates = rest.fates; done_is = refl }

  gone_looks : (a : Account M.Body) (c d : CellOf M Setup Hosted Store U) → HasLookedOn M tally c d → HasGone a c a d
  gone_looks a c d h = record { acts = Looks ∷ []; acted = (d, h, refl); none = refl; fates = fate_none a.requests a.requests refl; done_is = refl }

  -- ---- the requests that are asked

  gone_one : (w : List (Request M.Body)) (asked : Bool) (a : Account M.Body) (c : CellOf M Setup Hosted Store U) (b : Account M.Body) (d : CellOf M Setup Hosted Store U)
      → a.requests.waiting ≡ w → HasAskedFirstOf M tally w asked c d → AsksFirst (term_in c) asked a b → HasGone a c b d
  gone_one [] true a c b d is cell requests = absurd (cc cell.0)
  gone_one [] false a c b d is cell requests = gone_none a c b d requests cell.1
  gone_one (r ∷ w) true a c b d is cell requests =
      let body = requests.0 in
      let left = requests.1 in
      let q : Request M.Body = request requests.2.0 body in
      let lists : r ∷ w ≡ q ∷ left.waiting = sym is ∙ requests.2.1 in
      let same : r ≡ q = cc lists in
      let turned = subst (λ (z : Request M.Body). HasHadTurn M tally cell.seen (input.Ask z.body) d) same (may_turn M tally r.body cell.may cell.seen d cell.asks) in
      record {
        acts = Looks ∷ Asks (q ∷ []) ∷ [];
        acted = (cell.seen, inl (cell.may, cell.looked), (d, inl (q, refl, turned), refl));
        none = refl;
        fates = fate_first (term_in c) a b body left requests.2 requests.3;
        done_is = requests.3.done_is;
      }
  gone_one (r ∷ w) false a c b d is cell requests =
      gone_both a c a cell.seen b d (gone_looks a c cell.seen (inl (cell.may, cell.looked))) (gone_none a cell.seen b d requests (may_not M tally r.body cell.may cell.seen d cell.asks))

  gone_up_to : (n : ℕ) (a : Account M.Body) (c : CellOf M Setup Hosted Store U) (over : Bool) (b : Account M.Body) (d : CellOf M Setup Hosted Store U) → HasAskedUpTo M tally n a c over b d
      → HasGone a c b d
  gone_up_to zero a c over b d h = gone_none a c b d h.1 h.2
  gone_up_to (suc n) a c over b d h =
      ⊎_elim (λ (s : HasAskedOne M tally a false c b d × (over ≡ true)). gone_one a.requests.waiting false a c b d refl s.0.cell s.0.requests)
      (λ (s : (m : Account M.Body) × (e : CellOf M Setup Hosted Store U) × HasAskedOne M tally a true c m e × HasAskedUpTo M tally n m e over b d).
      gone_both a c s.0 s.1 b d (gone_one a.requests.waiting true a c s.0 s.1 refl s.2.cell s.2.requests) (gone_up_to n s.0 s.1 over b d s.3)) h

  gone_together : (a : Account M.Body) (c : CellOf M Setup Hosted Store U) (b : Account M.Body) (d : CellOf M Setup Hosted Store U) → HasAskedTogether M tally a c b d → HasGone a c b d
  gone_together a c b d h =
      let front = take batch_limit a.requests.waiting in
      record {
        acts = Asks front ∷ [];
        acted = (d, inr h.turned, refl);
        none = refl;
        fates = subst (λ (l : List (Request M.Body)). EachHasOneFate [] l false a.requests b.requests) (sym (append-nil front)) (fate_together (term_in c) a b h.requests);
        done_is = h.requests.done_is;
      }

  gone_asks : (a : Account M.Body) (c : CellOf M Setup Hosted Store U) (over : Bool) (b : Account M.Body) (d : CellOf M Setup Hosted Store U) → HasAskedOn M tally a c over b d → HasGone a c b d
  gone_asks a c over b d h =
      ⊎_elim (λ (s : HasAskedTogether M tally a c b d × ((over ≡ true) ↔ (b.requests.waiting ≡ []))). gone_together a c b d s.0)
      (λ (s : HasAskedEach M tally a c over b d). gone_up_to s.0 a c over b d s.2) h

  gone_before : (first : Bool) (a : Account M.Body) (c : CellOf M Setup Hosted Store U) (b : Account M.Body) (d : CellOf M Setup Hosted Store U) → AsksBefore M tally first a c b d → HasGone a c b d
  gone_before true a c b d h = gone_one a.requests.waiting h.0 a c b d refl h.1.cell h.1.requests
  gone_before false a c b d h = gone_none a c b d h.0 h.1

  -- what a round does after its jobs
  pub gone_round : (forwarded : Option ℕ) (a : Account M.Body) (c : CellOf M Setup Hosted Store U) (leaves : Bool) (b : Account M.Body) (d : CellOf M Setup Hosted Store U)
      → HasGoneRound M tally forwarded a c leaves b d → HasGone a c b d
  gone_round forwarded a c leaves b d h =
      let first = h.account_first in
      let heard = h.account_heard in
      let asked = h.account_asked in
      gone_both a c first h.first b d (gone_before _ a c first h.first h.asks_before)
      (gone_both first h.first first h.seen b d (gone_looks first h.first h.seen (inr (_, h.left, h.leaves)))
      (gone_both first h.seen first h.heard b d (gone_does (takes_but h.left h.seen.ether.size) first h.seen h.heard (takes_nothing M.Body M.Line h.left h.seen.ether.size) h.takes)
      (gone_both first h.heard heard h.heard b d (gone_back first heard h.heard h.taken_back)
      (gone_both heard h.heard asked h.asked b d (gone_asks heard h.heard h.all_asked asked h.asked h.asks)
      (gone_both asked h.asked asked h.applied b d (gone_does (applies h.applies_on.0) asked h.asked h.applied (applies_nothing M.Body M.Line h.applies_on.0) h.applies_on.1)
      (gone_both asked h.applied asked d b d (gone_does (beats_on h.has_news) asked h.applied d (beats_nothing M.Body M.Line h.has_news) h.beats) (gone_back asked b d h.come_back)))))))
