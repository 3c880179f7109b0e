-- A cell after inputs that were saved together.
use Rattle.std.proofs.Common.{◌≡◌, ℕ, suc, ◌≤◌, inl, inr, ⊎_elim, true, false, List, [], ◌∷◌, map, length, Option, Some, None, refl, sym, ap, ◌∙◌, subst, arith}
use Rattle.std.specs.Global.{Vec}
use Rattle.std.specs.Prelude.{◌↔◌, ◌⊎◌, IfSome}
use Rattle.raft_log.specs.declared.message.Message.{Message}
use Rattle.raft_log.specs.declared.node_state.NodeState.{NodeState}
use Rattle.raft_log.specs.Node.{Node, is_leader}
use Rattle.raft_log.specs.Positions.{role_of}
use Rattle.raft_log.specs.Seen.{seen}
use Rattle.recorder.specs.declared.node_line.NodeFields.{NodeFields}
use Rattle.recorder.specs.NodeLines.{fields_of}
use Rattle.stable_store.specs.declared.saved.Saved.{Saved}
use Rattle.stable_store.specs.Stores.{Serves}
use Rattle.raft_node.specs.declared.node_fault.Cause.{Cause}
use Rattle.raft_node.specs.declared.node_fault.Unsaved.{Unsaved}
use Rattle.raft_node.specs.Machine.{Machine}
use Rattle.raft_node.specs.Parts.{Holds, Keeper, saved_by, size_of}
use Rattle.raft_node.specs.Stepping.{IsSameNode}
use Rattle.raft_node.specs.SteppingTogether.{AreDone, AreDowned, HaveFailed, out_of}
use Rattle.raft_node.specs.Together.{outs, turned_all}
use Rattle.world_views.specs.Inputs.{NodeInput}
use Rattle.world_views.specs.Own.{EventOf, ViewOf, own_state, run}
use Rattle.ether.specs.Passes.{EtherParts, view_of}
use Rattle.node_cells.specs.declared.phase.Phase.{Phase}
use Rattle.node_cells.specs.declared.phase.Phase.TheVariants.{Up, DownInTurn, DownInTurns}
use Rattle.node_cells.specs.Books.{IsBook, NotedOf, turn_in}
use Rattle.node_cells.specs.Copies.{AreCopies, IsCopy}
use Rattle.node_cells.specs.Cells.{AreAnswered, AreTogether, HasCopies, HasHeard, IsCell, IsIn, IsLater, Shows, Stands, StandsEither, after_input, after_inputs, brought, cell_of}
use Rattle.node_cells.specs.Inputs.{Answer, OnlyAppend, input_of}
use Rattle.node_cells.specs.Restarts.{AreNoted, HasNotedAll}
use Rattle.node_cells.specs.Sending.{KnowsOneOf}
use Rattle.node_cells.specs.Together.{AreTurned, FallsInTurns, IsDownInAll, IsDownInFirst, all_done}
use Rattle.node_cells.specs.Turns.{CellOf}
use Rattle.node_cells.proofs.Appending.{acts, after_same, all_append, all_saved, are_answered, as_many_answers}
use Rattle.node_cells.proofs.Noting.{brings_none}
use Rattle.node_cells.proofs.Recorded.{Book}
use Rattle.node_cells.proofs.Restarting.{up_stands}
use Rattle.node_cells.proofs.Showing.{Inner, id_is, is_up, size_is}
use Rattle.node_cells.proofs.Started.{Ran, ran}
use Rattle.node_cells.proofs.Turning.{up_brings_none, up_is_copied, up_is_together}

module _ (M : Machine) where
  -- the turns of these inputs give the result of the inputs
  done_run : (n i : ℕ) (s : Node M.Body) (xs : List (NodeInput M.Body M.Line)) (answers : List Answer) (turns : List (NotedOf M)) → length answers ≡ length xs → AreNoted M (all_done xs answers) turns
      → run M n i s (map (turn_in M) turns) ≡ after_inputs M n i s xs
  done_run n i s [] answers [] many h = refl
  done_run n i s [] answers (t ∷ turns) many h = absurd h
  done_run n i s (x ∷ xs) [] turns many h = absurd (cc many)
  done_run n i s (x ∷ xs) (a ∷ answers) [] many h = absurd h
  done_run n i s (x ∷ xs) (a ∷ answers) (t ∷ turns) many h =
      ap (λ (e : EventOf M). run M n i (own_state M n i s e) (map (turn_in M) turns)) h.0
      ∙ done_run n i (after_input M n i s x) xs answers turns (let e : suc (length answers) ≡ suc (length xs) = many in omega (arith, e)) h.2

module _ (M : Machine) {Setup Hosted Store : Type 0} (k : Keeper Store M.Body) (inputs : List (NodeInput M.Body M.Line)) (q q' : Inner M Setup Hosted Store) (unsaved : Unsaved) (h : HaveFailed M k (map input_of inputs) q unsaved q') where
  -- a node that was up went down
  pub downed_here : q.down ≡ None → AreDowned M k (map input_of inputs) q unsaved.cause q'
  downed_here up = ⊎_elim (λ (d : AreDowned M k (map input_of inputs) q unsaved.cause q'). d) (λ e. absurd (let z : None ≡ Some unsaved.cause = sym up ∙ e.0 in cc z)) h.falls

module _ (M : Machine) {Setup Hosted Store U : Type 0} (k : Keeper Store M.Body) where
  module _ (b0 : Book M Setup) (q : Inner M Setup Hosted Store) (u : U) (p : Phase M.Body M.Line M.Target) (r : ℕ) (line : NodeFields) (h : IsCell M k (cell_of b0 q u p r line)) (up : p ≡ Up)
      (xs : List (NodeInput M.Body M.Line)) (appends : OnlyAppend xs) (leads : is_leader (role_of q.state.standing.position) ≡ true) (q' : Inner M Setup Hosted Store) (same : IsSameNode k q q') where
    abbrev c : CellOf M Setup Hosted Store U
    c = cell_of b0 q u p r line

    abbrev v : ViewOf M
    v = view_of b0.pass

    -- the view's node leads, as the node in memory does
    leads_here : v.honest ≡ true → is_leader v.state.role ≡ true
    leads_here honest = subst (λ (s : Node M.Body). is_leader s.role ≡ true) (is_up M k c h up honest) leads

    -- the result of the inputs, by the view and by the node in memory
    all_here : (s : Node M.Body) → IsIn q.state s → after_inputs M v.size (suc v.node) s xs ≡ turned_all M (size_of q.state) q.id (acts M xs) (seen q.state s.sent)
    all_here s here = sym (after_same M v.size (suc v.node) xs s) ∙ (λ d. turned_all M (size_is M k c h d) (id_is M k c h d) (acts M xs) (sym here d))

    outs_here : v.honest ≡ true → (answers : List Answer) → ((sent : List (Message M.Body)) → outs M (size_of q.state) q.id (acts M xs) (seen q.state sent) ≡ map (out_of M) answers)
        → AreAnswered M v.size (suc v.node) v.state xs answers
    outs_here honest answers are =
        are_answered M v.size (suc v.node) xs v.state answers
        ((λ d. outs M (size_is M k c h d) (id_is M k c h d) (acts M xs) (sym (is_up M k c h up honest) d)) ∙ are v.state.sent)

    -- ---- inputs that were done
    module _ (answers : List Answer) (done : AreDone M k (map input_of xs) q answers q') where
      pub many_are : length answers ≡ length xs
      many_are = as_many_answers M (size_of q.state) q.id xs (seen q.state []) answers (done.outs_are [])

      pub all_answered : v.honest ≡ true → AreAnswered M v.size (suc v.node) v.state xs answers
      all_answered honest = outs_here honest answers done.outs_are

      state_all : v.honest ≡ true → after_inputs M v.size (suc v.node) v.state xs ≡ seen q'.state v.state.sent
      state_all honest = all_here v.state (is_up M k c h up honest) ∙ done.node v.state.sent

      known_leader : KnowsOneOf b0.ether.size (seen q'.state [])
      known_leader =
          let is : after_inputs M (size_of q.state) q.id (seen q.state []) xs ≡ seen q'.state [] = sym (after_same M (size_of q.state) q.id xs (seen q.state [])) ∙ done.node [] in
          let a = all_append M (size_of q.state) q.id xs (seen q.state []) leads appends in
          let leader : (seen q'.state []).leader ≡ (seen q.state []).leader = ap (λ (s : Node M.Body). s.leader) (sym is) ∙ a.leader in
          subst (λ (o : Option ℕ). (j : ℕ) → o ≡ Some j → (1 ≤ j) × (j ≤ b0.ether.size)) (sym leader) h.leader

      module _ (b1 : Book M Setup) (noted : HasNotedAll M b0 (all_done xs answers) b1) where
        ran_1 : Ran M v (view_of b1.pass) (map (turn_in M) noted.first)
        ran_1 = subst (λ (w : ViewOf M). Ran M v w (map (turn_in M) noted.first)) (sym noted.view) (ran M v (map (turn_in M) noted.first))

        fold_1 : (view_of b1.pass).state ≡ after_inputs M v.size (suc v.node) v.state xs
        fold_1 = ran_1.state ∙ done_run M v.size (suc v.node) v.state xs answers noted.first many_are noted.are

        state_1 : v.honest ≡ true → (view_of b1.pass).state ≡ seen q'.state v.state.sent
        state_1 honest = fold_1 ∙ state_all honest

        counted_1 : v.honest ≡ true → b1.sent ≡ length (view_of b1.pass).state.sent
        counted_1 honest = noted.sent ∙ h.counted honest ∙ ap (λ (s : Node M.Body). length s.sent) (sym (state_1 honest))

        module _ (line' : NodeFields) where
          abbrev d : CellOf M Setup Hosted Store U
          d = cell_of b1 q' u p r line'

          pub done_together : IsBook M b1 → line' ≡ fields_of (seen q'.state []) → IsCell M k d
          done_together book shown =
              record {
                book = book;
                id = same.id ∙ h.id ∙ ap suc (sym noted.node);
                size = same.size ∙ h.size ∙ ap (λ (z : EtherParts Setup). z.size) (sym noted.ether);
                setup = same.setup ∙ h.setup ∙ ap (λ (z : EtherParts Setup). z.setup) (sym noted.ether);
                honest = ran_1.honest ∙ h.honest ∙ sym same.honest;
                leader = subst (λ (z : EtherParts Setup). KnowsOneOf z.size (seen q'.state [])) (sym noted.ether) known_leader;
                heard = up_brings_none M (view_of b1.pass) p up;
                together = up_is_together p up;
                copied = up_is_copied b1.recording p up;
                up = λ z. done.is_up;
                refused = h.refused;
                counted = λ is. counted_1 (sym ran_1.honest ∙ is);
                shown = λ is. shown ∙ ap (λ (s : Node M.Body). fields_of s) (sym (state_1 (sym ran_1.honest ∙ is)));
                shows = λ is. subst (λ (z : Phase M.Body M.Line M.Target). Shows M k (view_of b1.pass).size (suc (view_of b1.pass).node) (view_of b1.pass).state z r q') (sym up)
                    (subst (λ (s : Node M.Body). IsIn q'.state s) (sym (state_1 (sym ran_1.honest ∙ is))) refl, done.is_up);
              }

          pub turned_together : AreTurned M c xs answers d
          turned_together =
              record {
                noted = noted.first;
                many = many_are;
                are = noted.are;
                view = noted.view;
                state = fold_1;
                turns = noted.turns;
                outs = all_answered;
                sent = noted.sent;
                all_sent = λ honest. (h.counted honest, counted_1 honest);
                recording = noted.recording;
                ether = noted.ether;
                upstream = refl;
                was_up = up;
                is_up = up;
              }

    -- ---- inputs in which the node went down
    module _ (cause : Cause) (falls : AreDowned M k (map input_of xs) q cause q') where
      still_here : v.honest ≡ true → IsIn q'.state v.state
      still_here honest = ap (λ (state : NodeState M.Body). seen state v.state.sent) falls.same ∙ is_up M k c h up honest

      known_still : KnowsOneOf b0.ether.size (seen q'.state [])
      known_still = subst (λ (s : NodeState M.Body). KnowsOneOf b0.ether.size (seen s [])) (sym falls.same) h.leader

      same_later : (v w : Saved M.Body) → v ≡ w → IsLater 0 w v
      same_later v w e =
          let boot : v.boot ≡ w.boot = ap (λ (z : Saved M.Body). z.boot) e in
          record {
            term = ap (λ (z : Saved M.Body). z.term) e;
            vote = ap (λ (z : Saved M.Body). z.vote) e;
            log = ap (λ (z : Saved M.Body). z.log) e;
            low = omega (arith, boot);
            high = omega (arith, boot);
          }

      -- the store holds the result of all inputs, or what was there before
      either_stands : v.honest ≡ true → StandsEither k q'.store 0 (saved_by v.state) (saved_by (after_inputs M v.size (suc v.node) v.state xs))
      either_stands honest w stands =
          let here = is_up M k c h up honest in
          let all : saved_by (after_inputs M v.size (suc v.node) v.state xs) ≡ saved_by (turned_all M (size_of q.state) q.id (acts M xs) (seen q.state [])) =
          ap (λ (s : Node M.Body). saved_by s) (all_here v.state here) ∙ all_saved M (size_of q.state) q.id (acts M xs) q.state v.state.sent in
          ⊎_elim
          (λ (e : w ≡ saved_by (seen q.state [])). inl (same_later w (saved_by v.state) (e ∙ ap (λ (s : Node M.Body). saved_by s) here)))
          (λ (e : w ≡ saved_by (turned_all M (size_of q.state) q.id (acts M xs) (seen q.state []))). inr (same_later w _ (e ∙ sym all)))
          (falls.may_hold (same.honest ∙ sym h.honest ∙ honest) w stands)

      -- a cell that is down with this node, which shows the state from before
      fallen_with : (ph : Phase M.Body M.Line M.Target) → (ph ≡ Up → ⊥) → HasHeard v (brought ph) → AreTogether ph → HasCopies b0.recording ph → (v.honest ≡ true → Shows M k v.size (suc v.node) v.state ph 0 q') → IsCell M k (cell_of b0 q' u ph r line)
      fallen_with ph down heard together kept shows =
          record {
            book = h.book;
            id = same.id ∙ h.id;
            size = same.size ∙ h.size;
            setup = same.setup ∙ h.setup;
            honest = h.honest ∙ sym same.honest;
            leader = known_still;
            heard = heard;
            together = together;
            copied = kept;
            up = λ z. absurd (down z);
            refused = λ z. absurd (down z);
            counted = h.counted;
            shown = h.shown;
            shows = λ honest. subst (λ (n : ℕ). Shows M k v.size (suc v.node) v.state ph n q') (sym (h.refused up)) (shows honest);
          }

      falls_with : (ph : Phase M.Body M.Line M.Target) → IsDownInFirst xs ph ⊎ IsDownInAll xs ph → FallsInTurns M c xs (cell_of b0 q' u ph r line)
      falls_with ph down =
          record { was_up = up; phase = down; refused = refl; same = record { ether = refl; pass = refl; recording = refl; turns = refl; sent = refl; upstream = refl; shown = refl } }

      -- their save was tried
      module _ (all copies : Vec (NodeInput M.Body M.Line)) (answers : Vec Answer) (kept : AreCopies b0.recording all.items copies.items) (copied : all.items ≡ xs) (some : 1 ≤ length xs)
          (tried : (sent : List (Message M.Body)) → outs M (size_of q.state) q.id (acts M xs) (seen q.state sent) ≡ map (out_of M) answers.items) where
        pub fallen_together : IsCell M k (cell_of b0 q' u (DownInTurns all copies answers) r line)
        fallen_together =
            fallen_with (DownInTurns all copies answers) (λ z. cc z) (λ m e. absurd (cc e))
            (subst (λ (l : List (NodeInput M.Body M.Line)). (1 ≤ length l) × (length answers.items ≡ length l) × OnlyAppend l) (sym copied)
            (some, as_many_answers M (size_of q.state) q.id xs (seen q.state []) answers.items (tried []), appends))
            kept
            (λ honest. subst (λ (l : List (NodeInput M.Body M.Line)).
            IsIn q'.state v.state × StandsEither k q'.store 0 (saved_by v.state) (saved_by (after_inputs M v.size (suc v.node) v.state l))
            × (is_leader v.state.role ≡ true) × AreAnswered M v.size (suc v.node) v.state l answers.items) (sym copied)
            (still_here honest, either_stands honest, leads_here honest, outs_here honest answers.items tried))

        pub falls_together : FallsInTurns M c xs (cell_of b0 q' u (DownInTurns all copies answers) r line)
        falls_together = falls_with (DownInTurns all copies answers) (inr copied)

      -- none was
      module _ (sure : (s : Store) (w : Saved M.Body) → Serves (k.condition s) → k.may_stand s w ↔ (w ≡ k.saved s)) (holds : q.down ≡ None → Holds k q.store q.state) (untried : q'.store ≡ q.store) where
        before_stands : v.honest ≡ true → Stands k q'.store 0 (saved_by v.state)
        before_stands honest = subst (λ (s : Store). Stands k s 0 (saved_by v.state)) (sym untried) (up_stands M k c h sure holds honest (h.up up) (is_up M k c h up honest))

        first_cell : (x : NodeInput M.Body M.Line) (copy : Option (NodeInput M.Body M.Line)) → IsCopy b0.recording x copy → OnlyAppend (x ∷ []) → IsCell M k (cell_of b0 q' u (DownInTurn x copy false) r line)
        first_cell x copy kept one =
            fallen_with (DownInTurn x copy false) (λ z. cc z) (λ m e. absurd (let z : None ≡ Some m = sym (brings_none x one) ∙ e in cc z)) tt kept
            (λ honest. (still_here honest, λ w stands. inl (before_stands honest w stands)))

        pub fallen_first : (ph : Phase M.Body M.Line M.Target) → HasCopies b0.recording ph → IsDownInFirst xs ph → IsCell M k (cell_of b0 q' u ph r line)
        fallen_first ph kept down = by xs appends down
          where
            by : (ys : List (NodeInput M.Body M.Line)) → OnlyAppend ys → IsDownInFirst ys ph → IsCell M k (cell_of b0 q' u ph r line)
            by [] all is = absurd is
            by (y ∷ ys) all is = subst (λ (z : Phase M.Body M.Line M.Target). IsCell M k (cell_of b0 q' u z r line)) (sym is.1)
                (first_cell y is.0 (subst (λ (z : Phase M.Body M.Line M.Target). HasCopies b0.recording z) is.1 kept) (all.0, tt))

        pub falls_first : (ph : Phase M.Body M.Line M.Target) → IsDownInFirst xs ph → FallsInTurns M c xs (cell_of b0 q' u ph r line)
        falls_first ph down = falls_with ph (inl down)

    -- -- in either case
    module _ (all copies : Vec (NodeInput M.Body M.Line)) (copied : all.items ≡ xs) (some : 1 ≤ length xs) (unsaved : Unsaved) (failed : HaveFailed M k (map input_of xs) q unsaved q')
        (sure : (s : Store) (w : Saved M.Body) → Serves (k.condition s) → k.may_stand s w ↔ (w ≡ k.saved s)) (holds : q.down ≡ None → Holds k q.store q.state) (ph : Phase M.Body M.Line M.Target)
        (in_all : IfSome unsaved.answers (λ given. ph ≡ DownInTurns all copies given)) (in_first : unsaved.answers ≡ None → IsDownInFirst all.items ph) (kept : HasCopies b0.recording ph) where
      falls_here : AreDowned M k (map input_of xs) q unsaved.cause q'
      falls_here = downed_here M k xs q q' unsaved failed (h.up up)

      abbrev Outs : Vec Answer → Type 0
      Outs answers = (sent : List (Message M.Body)) → outs M (size_of q.state) q.id (acts M xs) (seen q.state sent) ≡ map (out_of M) answers.items

      cell_by : (o : Option (Vec Answer)) → unsaved.answers ≡ o → IfSome o (λ answers. Outs answers) → IfSome o (λ given. ph ≡ DownInTurns all copies given) → IsCell M k (cell_of b0 q' u ph r line)
      cell_by None is tried down = fallen_first unsaved.cause falls_here sure holds (failed.untried is) ph kept (subst (λ (l : List (NodeInput M.Body M.Line)). IsDownInFirst l ph) copied (in_first is))
      cell_by (Some answers) is tried down =
          subst (λ (z : Phase M.Body M.Line M.Target). IsCell M k (cell_of b0 q' u z r line)) (sym down) (fallen_together unsaved.cause falls_here all copies answers (subst (λ (z : Phase M.Body M.Line M.Target). HasCopies b0.recording z) down kept) copied some tried)

      pub fallen_cell_by : IsCell M k (cell_of b0 q' u ph r line)
      fallen_cell_by = cell_by unsaved.answers refl failed.tried in_all

      falls_by : (o : Option (Vec Answer)) → unsaved.answers ≡ o → IfSome o (λ answers. Outs answers) → IfSome o (λ given. ph ≡ DownInTurns all copies given) → FallsInTurns M c xs (cell_of b0 q' u ph r line)
      falls_by None is tried down = falls_first unsaved.cause falls_here sure holds (failed.untried is) ph (subst (λ (l : List (NodeInput M.Body M.Line)). IsDownInFirst l ph) copied (in_first is))
      falls_by (Some answers) is tried down =
          subst (λ (z : Phase M.Body M.Line M.Target). FallsInTurns M c xs (cell_of b0 q' u z r line)) (sym down) (falls_together unsaved.cause falls_here all copies answers (subst (λ (z : Phase M.Body M.Line M.Target). HasCopies b0.recording z) down kept) copied some tried)

      pub falls_in_turns : FallsInTurns M c xs (cell_of b0 q' u ph r line)
      falls_in_turns = falls_by unsaved.answers refl failed.tried in_all
