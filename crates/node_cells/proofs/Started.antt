-- A cell after a restart, and after one that failed.
use Rattle.std.proofs.Common.{◌≡◌, ℕ, suc, ◌+◌, ◌-◌, ◌⊎◌, inl, inr, ⊎_elim, Bool, true, false, List, [], ◌∷◌, ◌++◌, map, length, None, Ok, refl, sym, ap, ◌∙◌, subst, arith, append_assoc}
use Rattle.std.specs.Global.{Vec}
use Rattle.std.specs.Prelude.{◌↔◌, ◌||◌, not, IsTrue, min}
use Rattle.std.proofs.Math.Nat.{min-le_right}
use Rattle.raft_log.specs.declared.node_state.NodeState.{NodeState}
use Rattle.raft_log.specs.Node.{Node}
use Rattle.raft_log.specs.Seen.{seen}
use Rattle.recorder.specs.declared.node_line.NodeFields.{NodeFields}
use Rattle.recorder.specs.NodeLines.{fields_of}
use Rattle.stable_store.specs.declared.saved.Saved.{Saved}
use Rattle.stable_store.specs.Stores.{IsHonest, Serves}
use Rattle.raft_node.specs.Machine.{Machine}
use Rattle.raft_node.specs.Parts.{Holds, Keeper, saved_by, size_of}
use Rattle.raft_node.specs.Starting.{Begins, BeganWith, MayBegin, MayHaveStood, begun}
use Rattle.raft_node.specs.Stepping.{IsSameNode}
use Rattle.world_views.specs.declared.node_event.NodeEvent.{NodeEvent}
use Rattle.world_views.specs.declared.node_event.NodeEvent.TheVariants.{Restart, StopIn}
use Rattle.world_views.specs.Inputs.{NodeInput}
use Rattle.world_views.specs.Own.{TurnOf, ViewOf, run}
use Rattle.world_views.specs.Views.{View}
use Rattle.ether.specs.Passes.{EtherParts, IsHeard, view_of}
use Rattle.ether.specs.Plays.{after_event}
use Rattle.node_cells.specs.declared.phase.Phase.{Phase}
use Rattle.node_cells.specs.declared.phase.Phase.TheVariants.{Up, DownInTurn, DownInTurns, DownInRestart}
use Rattle.node_cells.specs.declared.remembered.Remembered.{Remembered}
use Rattle.node_cells.specs.Books.{IsBook, NotedOf, recorded_by, turn_in}
use Rattle.node_cells.specs.declared.record.Recording.{Recording}
use Rattle.node_cells.specs.Cells.{AreTogether, HasCopies, HasHeard, IsCell, IsIn, IsLater, Shows, Stands, StandsEither, after_input, brought, cell_of}
use Rattle.node_cells.specs.Remembering.{Remembers}
use Rattle.node_cells.specs.Inputs.{Answer}
use Rattle.node_cells.specs.Restarts.{HasNotedAll, HasRestarts, IsAlone, IsRefusedRestart, IsRestart, after_turns, fallen, firsts_at_most, firsts_of, silent}
use Rattle.node_cells.specs.Sending.{KnowsOneOf, terms_of}
use Rattle.node_cells.proofs.Looping.{turns-append}
use Rattle.node_cells.proofs.Recorded.{Book, recorded-append}
use Rattle.node_cells.proofs.Restarting.{restart_shows, same_item}
use Rattle.node_cells.proofs.Sending.{none_known}
use Rattle.node_cells.proofs.Showing.{Inner}

module _ {B L T : Type 0} where
  -- if it did not go down while inputs were saved together, it went down alone, if at all
  pub not_together : (p : Phase B L T) → ((inputs copies : Vec (NodeInput B L)) (answers : Vec Answer) → p ≡ DownInTurns inputs copies answers → ⊥) → IsAlone p
  not_together Up h = tt
  not_together (DownInTurn x copy done) h = tt
  not_together (DownInTurns inputs copies answers) h = h inputs copies answers refl
  not_together DownInRestart h = tt

  pub first_alone : (p : Phase B L T) → IsAlone p → firsts_at_most p ≡ 1
  first_alone Up h = refl
  first_alone (DownInTurn x copy done) h = refl
  first_alone (DownInTurns inputs copies answers) h = absurd h
  first_alone DownInRestart h = refl

module _ {B L T : Type 0} where
  is_heard_by : (v : View B L T) (e f : NodeEvent B L T) → ◌≡◌ {A = List (NodeEvent B L T × Answer)} ((e, Ok tt) ∷ []) ((f, Ok tt) ∷ []) → IsHeard v e → IsHeard v f
  is_heard_by v e f h heard =
      let p : NodeEvent B L T × Answer = (e, Ok tt) in
      let q : NodeEvent B L T × Answer = (f, Ok tt) in
      subst (λ (z : NodeEvent B L T × Answer). IsHeard v z.0) (same_item p q h) heard

  -- what the first event of a restart brings was heard
  pub heard_first : (v : View B L T) (p : Phase B L T) (same : Bool) (e : NodeEvent B L T) → IsAlone p → HasHeard v (brought p) → firsts_of p same ≡ (e, Ok tt) ∷ [] → IsHeard v e
  heard_first v Up same e alone h is = is_heard_by v Restart e is h
  heard_first v (DownInTurn x copy done) same e alone h is = is_heard_by v (StopIn x (done || not same)) e is h
  heard_first v (DownInTurns inputs copies answers) same e alone h is = absurd alone
  heard_first v DownInRestart same e alone h is = is_heard_by v Restart e is h

module _ (M : Machine) where
  -- what turns leave of a view
  pub record Ran (v w : ViewOf M) (ts : List (TurnOf M)) : Type 0 where
    pub size : w.size ≡ v.size
    pub node : w.node ≡ v.node
    pub honest : w.honest ≡ v.honest
    pub state : w.state ≡ run M v.size (suc v.node) v.state ts

  pub ran : (v : ViewOf M) (ts : List (TurnOf M)) → Ran v (after_turns M v ts) ts
  ran v [] = record { size = refl; node = refl; honest = refl; state = refl }
  ran v (t ∷ ts) = let r = ran (after_event M v t.0 t.1) ts in record { size = r.size; node = r.node; honest = r.honest; state = r.state }

module _ {B : Type 0} where
  -- what is known of the node in memory is known of what was saved
  pub told_of : (before : Remembered) (old new : NodeState B) (n : ℕ) (v : Saved B) (same : Bool) → Remembers before old → BeganWith n v new
      → (IsTrue same ↔ (before.term ≡ new.standing.term) × (before.vote ≡ new.standing.vote) × (before.terms.items ≡ terms_of new.log))
      → (IsTrue same ↔ (old.standing.term ≡ v.term) × (old.standing.vote ≡ v.vote) × (terms_of old.log ≡ terms_of v.log))
  told_of before old new n v same r b told =
      let now = b [] in
      let term : new.standing.term ≡ v.term = ap (λ (s : Node B). s.term) now in
      let vote : new.standing.vote ≡ v.vote = ap (λ (s : Node B). s.vote) now in
      let terms : terms_of new.log ≡ terms_of v.log = ap (λ (s : Node B). terms_of s.log) now in (
        λ is. let t = told.0 is in (sym r.term ∙ t.0 ∙ term, sym r.vote ∙ t.1 ∙ vote, sym r.terms ∙ t.2 ∙ terms),
        λ are. told.1 (r.term ∙ are.0 ∙ sym term, r.vote ∙ are.1 ∙ sym vote, r.terms ∙ are.2 ∙ sym terms),
      )

  later_more : (r : ℕ) (s v w : Saved B) → IsLater r s v → w ≡ v → IsLater (r + 1) s w
  later_more r s v w l e =
      let boot : w.boot ≡ v.boot = ap (λ (z : Saved B). z.boot) e in
      let low = l.low in
      let high = l.high in
      record {
        term = ap (λ (z : Saved B). z.term) e ∙ l.term;
        vote = ap (λ (z : Saved B). z.vote) e ∙ l.vote;
        log = ap (λ (z : Saved B). z.log) e ∙ l.log;
        low = omega arith;
        high = omega arith;
      }

  later_begun : (r n : ℕ) (s v w : Saved B) → IsLater r s v → w ≡ saved_by (begun n v []) → IsLater (r + 1) s w
  later_begun r n s v w l e =
      let boot : w.boot ≡ suc v.boot = ap (λ (z : Saved B). z.boot) e in
      let low = l.low in
      let high = l.high in
      record {
        term = ap (λ (z : Saved B). z.term) e ∙ l.term;
        vote = ap (λ (z : Saved B). z.vote) e ∙ l.vote;
        log = ap (λ (z : Saved B). z.log) e ∙ l.log;
        low = omega arith;
        high = omega arith;
      }

  module _ {Store : Type 0} (k : Keeper Store B) (old new : Store) (n : ℕ) (begin : MayBegin k n old new) (honest : IsHonest (k.condition old)) where
    later_of : (r : ℕ) (s w : Saved B) → k.may_stand old w ⊎ ((v : Saved B) × k.may_stand old v × (w ≡ saved_by (begun n v []))) → ((v : Saved B) → k.may_stand old v → IsLater r s v) → IsLater (r + 1) s w
    later_of r s w (inl stood) all = later_more r s w w (all w stood) refl
    later_of r s w (inr b) all = later_begun r n s b.0 w (all b.0 b.1) b.2

    pub stands_more : (r : ℕ) (s : Saved B) → Stands k old r s → Stands k new (r + 1) s
    stands_more r s h w stands = later_of r s w (begin honest w stands) h

    either_of : (r : ℕ) (s t w : Saved B) → k.may_stand old w ⊎ ((v : Saved B) × k.may_stand old v × (w ≡ saved_by (begun n v []))) → StandsEither k old r s t → IsLater (r + 1) s w ⊎ IsLater (r + 1) t w
    either_of r s t w (inl stood) h =
        ⊎_elim (λ (l : IsLater r s w). inl (later_more r s w w l refl)) (λ (l : IsLater r t w). inr (later_more r t w w l refl)) (h w stood)
    either_of r s t w (inr b) h =
        ⊎_elim (λ (l : IsLater r s b.0). inl (later_begun r n s b.0 w l b.2)) (λ (l : IsLater r t b.0). inr (later_begun r n t b.0 w l b.2)) (h b.0 b.1)

    pub either_more : (r : ℕ) (s t : Saved B) → StandsEither k old r s t → StandsEither k new (r + 1) s t
    either_more r s t h w stands = either_of r s t w (begin honest w stands) h

module _ (M : Machine) where
  never_up : (p : Phase M.Body M.Line M.Target) → fallen p ≡ Up → ⊥
  never_up Up h = cc h
  never_up (DownInTurn x copy done) h = cc h
  never_up (DownInTurns inputs copies answers) h = cc h
  never_up DownInRestart h = cc h

  fallen_brings : (v : ViewOf M) (p : Phase M.Body M.Line M.Target) → HasHeard v (brought p) → HasHeard v (brought (fallen p))
  fallen_brings v Up h = h
  fallen_brings v (DownInTurn x copy done) h = h
  fallen_brings v (DownInTurns inputs copies answers) h = h
  fallen_brings v DownInRestart h = h

  fallen_together : (p : Phase M.Body M.Line M.Target) → AreTogether p → AreTogether (fallen p)
  fallen_together Up h = tt
  fallen_together (DownInTurn x copy done) h = tt
  fallen_together (DownInTurns inputs copies answers) h = h
  fallen_together DownInRestart h = tt

  fallen_copied : (recording : Recording) (p : Phase M.Body M.Line M.Target) → HasCopies recording p → HasCopies recording (fallen p)
  fallen_copied recording Up h = tt
  fallen_copied recording (DownInTurn x copy done) h = h
  fallen_copied recording (DownInTurns inputs copies answers) h = h
  fallen_copied recording DownInRestart h = tt

module _ (M : Machine) {Setup Hosted Store U : Type 0} (k : Keeper Store M.Body) where
  module _ (b0 : Book M Setup) (q q' : Inner M Setup Hosted Store) (u : U) (p : Phase M.Body M.Line M.Target) (r : ℕ) (line : NodeFields) (h : IsCell M k (cell_of b0 q u p r line))
      (same : IsSameNode k q q') (sure : (s : Store) (w : Saved M.Body) → Serves (k.condition s) → k.may_stand s w ↔ (w ≡ k.saved s)) (holds : q.down ≡ None → Holds k q.store q.state) where
    abbrev v : ViewOf M
    v = view_of b0.pass

    -- ---- a restart that failed
    module _ (state : q'.state ≡ q.state) (begin : MayBegin k (size_of q.state) q.store q'.store) where
      still_in : (s : Node M.Body) → IsIn q.state s → IsIn q'.state s
      still_in s here = ap (λ (z : NodeState M.Body). seen z s.sent) state ∙ here

      falls : (x : Phase M.Body M.Line M.Target) → (IsHonest (k.condition q.store)) → Shows M k v.size (suc v.node) v.state x r q → (x ≡ Up → r ≡ 0) → Shows M k v.size (suc v.node) v.state (fallen x) (r + 1) q'
      falls Up honest shows none = (
        still_in v.state shows.0,
        stands_more k q.store q'.store (size_of q.state) begin honest r (saved_by v.state) (λ w stands.
            let held = holds shows.1 honest in
            let is : w ≡ saved_by v.state = (sure q.store w held.0).0 stands ∙ held.1 ∙ ap saved_by shows.0 in
            let boot : w.boot ≡ v.state.boot = ap (λ (z : Saved M.Body). z.boot) is in
            let zero' = none refl in
            record {
              term = ap (λ (z : Saved M.Body). z.term) is;
              vote = ap (λ (z : Saved M.Body). z.vote) is;
              log = ap (λ (z : Saved M.Body). z.log) is;
              low = omega arith;
              high = omega arith;
            }),
      )
      falls (DownInTurn x copy false) honest shows none = (still_in v.state shows.0, either_more k q.store q'.store (size_of q.state) begin honest r _ _ shows.1)
      falls (DownInTurn x copy true) honest shows none = (still_in (after_input M v.size (suc v.node) v.state x) shows.0, stands_more k q.store q'.store (size_of q.state) begin honest r _ shows.1)
      falls (DownInTurns inputs copies answers) honest shows none = (still_in v.state shows.0, either_more k q.store q'.store (size_of q.state) begin honest r _ _ shows.1, shows.2, shows.3)
      falls DownInRestart honest shows none = (still_in v.state shows.0, stands_more k q.store q'.store (size_of q.state) begin honest r _ shows.1)

      pub refused_cell : IsCell M k (cell_of b0 q' u (fallen p) (r + 1) line)
      refused_cell =
          record {
            book = h.book;
            id = same.id ∙ h.id;
            size = same.size ∙ h.size;
            setup = same.setup ∙ h.setup;
            honest = h.honest ∙ sym same.honest;
            leader = subst (λ (z : NodeState M.Body). KnowsOneOf b0.ether.size (seen z [])) (sym state) h.leader;
            heard = fallen_brings M v p h.heard;
            together = fallen_together M p h.together;
            copied = fallen_copied M b0.recording p h.copied;
            up = λ e. absurd (never_up M p e);
            refused = λ e. absurd (never_up M p e);
            counted = h.counted;
            shown = h.shown;
            shows = λ honest. falls p (sym h.honest ∙ honest) (h.shows honest) h.refused;
          }

      pub refused_is : IsRefusedRestart M (cell_of b0 q u p r line) (cell_of b0 q' u (fallen p) (r + 1) line)
      refused_is = record { phase = refl; refused = omega arith; same = record { ether = refl; pass = refl; recording = refl; turns = refl; sent = refl; upstream = refl; shown = refl } }

    -- ---- a restart
    module _ (up : q'.down ≡ None) (b : Begins (size_of q.state) (MayHaveStood k q.store) q'.state) (told : Bool)
        (is_told : IsTrue told ↔ (q.state.standing.term ≡ b.0.term) × (q.state.standing.vote ≡ b.0.vote) × (terms_of q.state.log ≡ terms_of b.0.log))
        (b1 b2 : Book M Setup) (first : HasNotedAll M b0 (firsts_of p told) b1) (count : ℕ) (many : count ≡ min (q'.state.standing.boot - q.state.standing.boot - 1) r) (rest : HasRestarts M b1 count b2) where
      view_2 : view_of b2.pass ≡ after_turns M v (map (turn_in M) first.first ++ rest.more)
      view_2 = rest.view ∙ ap (λ (w : ViewOf M). after_turns M w rest.more) first.view ∙ sym (turns-append M v (map (turn_in M) first.first) rest.more)

      ran_2 : Ran M v (view_of b2.pass) (map (turn_in M) first.first ++ rest.more)
      ran_2 = subst (λ (w : ViewOf M). Ran M v w (map (turn_in M) first.first ++ rest.more)) (sym view_2) (ran M v (map (turn_in M) first.first ++ rest.more))

      ether_2 : b2.ether ≡ b0.ether
      ether_2 = rest.ether ∙ first.ether

      shown_2 : v.honest ≡ true → IsIn q'.state (view_of b2.pass).state × ((view_of b2.pass).state.sent ≡ v.state.sent)
      shown_2 honest =
          let so = restart_shows M k (cell_of b0 q u p r line) h sure holds honest q' told first.first rest.more b first.are rest.restarts (rest.long ∙ many) is_told in
          (subst (λ (s : Node M.Body). IsIn q'.state s) (sym ran_2.state) so.0, ap (λ (s : Node M.Body). s.sent) ran_2.state ∙ so.1)

      pub started_cell : IsBook M b2 → (line' : NodeFields) → line' ≡ fields_of (seen q'.state []) → IsCell M k (cell_of b2 q' u Up 0 line')
      started_cell book line' shown =
          record {
            book = book;
            id = same.id ∙ h.id ∙ ap suc (sym (rest.node ∙ first.node));
            size = same.size ∙ h.size ∙ ap (λ (z : EtherParts Setup). z.size) (sym ether_2);
            setup = same.setup ∙ h.setup ∙ ap (λ (z : EtherParts Setup). z.setup) (sym ether_2);
            honest = ran_2.honest ∙ h.honest ∙ sym same.honest;
            leader = none_known b2.ether.size (seen q'.state []).leader (ap (λ (s : Node M.Body). s.leader) (b.2 []));
            heard = λ m e. absurd (cc e);
            together = tt;
            copied = tt;
            up = λ z. up;
            refused = λ z. refl;
            counted = λ is. let honest : v.honest ≡ true = sym ran_2.honest ∙ is in rest.sent ∙ first.sent ∙ h.counted honest ∙ ap length (sym (shown_2 honest).1);
            shown = λ is. let honest : v.honest ≡ true = sym ran_2.honest ∙ is in shown ∙ ap (λ (s : Node M.Body). fields_of s) (shown_2 honest).0;
            shows = λ is. let honest : v.honest ≡ true = sym ran_2.honest ∙ is in ((shown_2 honest).0, up);
          }

      pub started_is : (line' : NodeFields) → IsRestart M (cell_of b0 q u p r line) (cell_of b2 q' u Up 0 line')
      started_is line' =
          record {
            first = first.first;
            same = told;
            together = h.together;
            first_are = first.are;
            more = rest.more;
            restarts = rest.restarts;
            few = let few = min-le_right (q'.state.standing.boot - q.state.standing.boot - 1) r in let long = rest.long in omega (arith, few, long, many);
            view = view_2;
            recording = rest.recording ∙ first.recording;
            turns = rest.turns ∙ (λ i. first.turns i ++ recorded_by (first.recording i) (map (silent M) rest.more))
                ∙ append_assoc b0.turns (recorded_by b0.recording first.first) (recorded_by b0.recording (map (silent M) rest.more))
                ∙ ap (λ (l : List (NotedOf M)). b0.turns ++ l) (sym (recorded-append b0.recording first.first (map (silent M) rest.more)));
            sent = rest.sent ∙ first.sent;
            ether = ether_2;
            upstream = refl;
            is_up = refl;
          }
