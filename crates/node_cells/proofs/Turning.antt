-- A cell after a turn.
use Rattle.std.proofs.Common.{Option, ◌≡◌, ℕ, suc, ◌+◌, ◌*◌, ◌≤◌, ◌↔◌, Bool, true, false, List, [], ◌∷◌, ◌++◌, map, length, drop, refl, sym, ap, ◌∙◌, subst, arith, length-append}
use Rattle.std.proofs.Math.Seq.{drop-append_seam}
use Rattle.raft_log.specs.declared.message.Message.{Message}
use Rattle.raft_log.specs.declared.node_state.NodeState.{NodeState}
use Rattle.raft_log.specs.Node.{Node}
use Rattle.raft_log.specs.Seen.{seen}
use Rattle.recorder.specs.declared.node_line.NodeFields.{NodeFields}
use Rattle.recorder.specs.NodeLines.{fields_of}
use Rattle.stable_store.specs.declared.saved.Saved.{Saved}
use Rattle.stable_store.specs.Stores.{Serves}
use Rattle.raft_node.specs.declared.input.Output.{Output}
use Rattle.raft_node.specs.declared.node_fault.Cause.{Cause}
use Rattle.raft_node.specs.Machine.{Machine}
use Rattle.raft_node.specs.Parts.{Keeper, saved_by}
use Rattle.raft_node.specs.Stepping.{IsDone, IsDowned, IsSameNode, given}
use Rattle.raft_node.specs.Steps.{Out, effects_of}
use Rattle.world_run.specs.Told.{out_of}
use Rattle.world_run.specs.World.{hands}
use Rattle.world_views.specs.declared.node_event.NodeEvent.TheVariants.{Does}
use Rattle.world_views.specs.Inputs.{NodeInput}
use Rattle.world_views.specs.Own.{EventOf, ViewOf, act_of, own_out, own_state}
use Rattle.world_views.specs.Views.{carries}
use Rattle.ether.specs.Passes.{EtherParts, view_of}
use Rattle.ether.specs.Plays.{after_event}
use Rattle.node_cells.specs.declared.phase.Phase.{Phase}
use Rattle.node_cells.specs.declared.phase.Phase.TheVariants.{Up, DownInTurn}
use Rattle.node_cells.specs.declared.record.TurnOutput.{TurnOutput}
use Rattle.node_cells.specs.Books.{HasNoted, HasPosted, IsBook, OutcomeOf}
use Rattle.node_cells.specs.Copies.{IsCopy}
use Rattle.node_cells.specs.declared.record.Recording.{Recording}
use Rattle.node_cells.specs.Cells.{AreTogether, HasCopies, HasHeard, IsCell, IsIn, Shows, after_input, brought, cell_of}
use Rattle.node_cells.specs.Sending.{AreWithin, KnowsOneOf, StandFrom, to_of}
use Rattle.node_cells.specs.Turns.{CellOf, FallsInTurn, IsEvent, IsGiven, IsTurn}
use Rattle.node_cells.specs.Upstreams.{HandsOut, Tally}
use Rattle.node_cells.specs.Posts.{GaveBack, posts_from}
use Rattle.node_cells.proofs.Acting.{given_effects, given_out}
use Rattle.node_cells.proofs.Looping.{gave_behind}
use Rattle.node_cells.proofs.Recorded.{Book, posts_are}
use Rattle.node_cells.proofs.Showing.{Inner, Stepped, Still, downed, is_up, stepped, stand_behind}

module _ (M : Machine) where
  -- a node that is up went down in no turn
  pub up_brings_none : (v : ViewOf M) (p : Phase M.Body M.Line M.Target) → p ≡ Up → HasHeard v (brought p)
  up_brings_none v p up = subst (λ (z : Phase M.Body M.Line M.Target). HasHeard v (brought z)) (sym up) (λ m e. absurd (cc e))

module _ {B L T : Type 0} where
  -- nor were inputs saved together
  pub up_is_together : (p : Phase B L T) → p ≡ Up → AreTogether p
  up_is_together p up = subst (λ (z : Phase B L T). AreTogether z) (sym up) tt

  pub up_is_copied : (recording : Recording) (p : Phase B L T) → p ≡ Up → HasCopies recording p
  up_is_copied recording p up = subst (λ (z : Phase B L T). HasCopies recording z) (sym up) tt

module _ (M : Machine) {Setup Hosted Store U : Type 0} (k : Keeper Store M.Body) (tally : U → Tally) where
  module _ (b0 : Book M Setup) (q : Inner M Setup Hosted Store) (u : U) (p : Phase M.Body M.Line M.Target) (r : ℕ) (line : NodeFields) (h : IsCell M k (cell_of b0 q u p r line)) (up : p ≡ Up) where
    abbrev c : CellOf M Setup Hosted Store U
    c = cell_of b0 q u p r line

    abbrev v : ViewOf M
    v = view_of b0.pass

    abbrev here : ℕ
    here = v.size

    -- ---- a step that was done
    module _ (x : NodeInput M.Body M.Line) (output : Output M.Body M.Effect) (q' : Inner M Setup Hosted Store) (done : IsDone M k (act_of M x) q output q') (same : IsSameNode k q q') where
      facts : Stepped M k c h up x output q'
      facts = stepped M k c h up x output q' done

      pub comes_out : (o : OutcomeOf M) → IsGiven output.place output.effects.items o → v.honest ≡ true → out_of M o ≡ own_out M v.size (suc v.node) v.state (Does x)
      comes_out o g honest = given_out M output.place output.effects.items o g ∙ facts.out honest

      module _ (o : OutcomeOf M) (b1 : Book M Setup) (noted : HasNoted M b0 (Does x) o b1) where
        state_1 : (view_of b1.pass).state ≡ own_state M v.size (suc v.node) v.state (Does x)
        state_1 = ap (λ (w : ViewOf M). w.state) noted.view

        honest_1 : (view_of b1.pass).honest ≡ v.honest
        honest_1 = ap (λ (w : ViewOf M). w.honest) noted.view

        sent_1 : v.honest ≡ true → (view_of b1.pass).state.sent ≡ v.state.sent ++ output.messages.items
        sent_1 honest = ap (λ (s : Node M.Body). s.sent) (state_1 ∙ facts.state honest)

        -- what the posts require
        pub may_post : (view_of b1.pass).honest ≡ true → StandFrom (view_of b1.pass).state.sent b1.sent output.messages.items
        may_post is =
            let honest : v.honest ≡ true = sym honest_1 ∙ is in
            subst (λ (z : List (Message M.Body) × ℕ). StandFrom z.0 z.1 output.messages.items) (λ d. (sym (sent_1 honest) d, sym (noted.sent ∙ h.counted honest) d)) (stand_behind v.state.sent output.messages.items)

        pub goes_within : AreWithin (suc b1.pass.node) b1.ether.size output.messages.items
        goes_within = subst (λ (z : ℕ × ℕ). AreWithin (suc z.0) z.1 output.messages.items) (λ d. (sym noted.node d, (sym noted.ether d).size)) facts.within

        pub few_sent : length output.messages.items ≤ 7
        few_sent = let few = facts.few in omega (arith, few)

        pub few_posts : b1.sent + length output.messages.items ≤ 7 * length (view_of b1.pass).turns
        few_posts =
            let few = facts.few in
            let before = h.book.few in
            let long : length (view_of b1.pass).turns ≡ length v.turns + 1 = ap (λ (w : ViewOf M). length w.turns) noted.view ∙ length-append v.turns ((noted.ticket, Does x) ∷ []) in
            let sent = noted.sent in
            omega (arith, few, before, long, sent)

        module _ (b2 : Book M Setup) (posted : HasPosted M b1 (length output.messages.items) b2) where
          -- the view except for what was posted
          view_2 : (more : List ℕ) × (view_of b2.pass ≡ record (after_event M v noted.ticket (Does x)) { posted = more })
          view_2 =
              let more : List ℕ = (posts_from (view_of b1.pass) b1.sent (length output.messages.items)).posted in
              (more, posted.view ∙ posts_are (view_of b1.pass) b1.sent (length output.messages.items) ∙ ap (λ (w : ViewOf M). record w { posted = more }) noted.view)

          state_2 : v.honest ≡ true → (view_of b2.pass).state ≡ seen q'.state (v.state.sent ++ output.messages.items)
          state_2 honest = ap (λ (w : ViewOf M). w.state) view_2.1 ∙ facts.state honest

          counted_2 : v.honest ≡ true → b2.sent ≡ length (view_of b2.pass).state.sent
          counted_2 honest =
              let one = posted.sent in
              let two = noted.sent in
              let three = h.counted honest in
              let long : length (view_of b2.pass).state.sent ≡ length v.state.sent + length output.messages.items = ap (λ (s : Node M.Body). length s.sent) (state_2 honest) ∙ length-append v.state.sent output.messages.items in
              omega (arith, one, two, three, long)

          honest_2 : (view_of b2.pass).honest ≡ v.honest
          honest_2 = ap (λ (w : ViewOf M). w.honest) view_2.1

          ether_2 : b2.ether ≡ b0.ether
          ether_2 = posted.ether ∙ noted.ether

          place_2 : b2.pass.node ≡ b0.pass.node
          place_2 = posted.node ∙ noted.node

          module _ (u' : U) (line' : NodeFields) (book : IsBook M b2) (shown : line' ≡ fields_of (seen q'.state [])) where
            abbrev e : CellOf M Setup Hosted Store U
            e = cell_of b2 q' u' p r line'

            pub turned_cell : IsCell M k e
            turned_cell =
                record {
                  book = book;
                  id = same.id ∙ h.id ∙ ap suc (sym place_2);
                  size = same.size ∙ h.size ∙ ap (λ (z : EtherParts Setup). z.size) (sym ether_2);
                  setup = same.setup ∙ h.setup ∙ ap (λ (z : EtherParts Setup). z.setup) (sym ether_2);
                  honest = honest_2 ∙ h.honest ∙ sym same.honest;
                  leader = subst (λ (z : EtherParts Setup). KnowsOneOf z.size (seen q'.state [])) (sym ether_2) facts.leader;
                  heard = up_brings_none M (view_of b2.pass) p up;
                  together = up_is_together p up;
                  copied = up_is_copied b2.recording p up;
                  up = λ z. done.is_up;
                  refused = h.refused;
                  counted = λ is. counted_2 (sym honest_2 ∙ is);
                  shown = λ is. shown ∙ ap (λ (s : Node M.Body). fields_of s) (sym (state_2 (sym honest_2 ∙ is)));
                  shows = λ is. subst (λ (z : Phase M.Body M.Line M.Target). Shows M k (view_of b2.pass).size (suc (view_of b2.pass).node) (view_of b2.pass).state z r q') (sym up)
                      (subst (λ (s : Node M.Body). IsIn q'.state s) (sym (state_2 (sym honest_2 ∙ is))) refl, done.is_up);
                }

            module _ (given_o : IsGiven output.place output.effects.items o) (handed : HandsOut (hands M output.effects.items) (tally u) (tally u')) where
              event : IsEvent M tally c (Does x) o e
              event =
                  let out : out_of M o ≡ given {M = M} output.place output.effects.items = given_out M output.place output.effects.items o given_o in
                  record {
                    ticket = noted.ticket;
                    count = length output.messages.items;
                    view = posted.view ∙ (λ d. posts_from (noted.view d) (noted.sent d) (length output.messages.items));
                    sent = posted.sent ∙ ap (λ (n : ℕ). n + length output.messages.items) noted.sent;
                    all_sent = λ honest. (h.counted honest, counted_2 honest);
                    recording = posted.recording ∙ noted.recording;
                    turns = posted.turns ∙ noted.turns;
                    out = comes_out o given_o;
                    handed = subst (λ (l : List M.Effect). HandsOut (hands M l) (tally u) (tally u'))
                        (sym (ap (λ (z : Out M). effects_of z) out ∙ given_effects M output.place output.effects.items done.none_leaves)) handed;
                    ether = ether_2;
                    was_up = up;
                    is_up = up;
                  }

              pub turn_is : (given' : TurnOutput M.Body M.Effect) → given'.place ≡ output.place → given'.effects ≡ output.effects → given'.posted_to.items ≡ map to_of output.messages.items
                  → GaveBack (view_of b1.pass) (map to_of output.messages.items) given'.replaced.items → IsTurn M tally c x given' e
              turn_is given' place effects to gave =
                  record {
                    outcome = o;
                    event = event;
                    gives = given_out M output.place output.effects.items o given_o ∙ (λ d. given {M = M} (sym place d) (sym effects d).items);
                    posts = λ honest. to ∙ ap (λ (l : List (Message M.Body)). map to_of l)
                        (sym (ap (λ (s : Node M.Body). drop (length v.state.sent) s.sent) (state_2 honest) ∙ drop-append_seam v.state.sent output.messages.items));
                    replaced = subst (λ (z : ViewOf M × List ℕ). GaveBack z.0 z.1 given'.replaced.items)
                        (λ d. (sym (posted.view ∙ posts_are (view_of b1.pass) b1.sent (length output.messages.items)) d, sym to d)) (gave_behind (view_of b1.pass) (posts_from (view_of b1.pass) b1.sent (length output.messages.items)).posted _ _ gave);
                  }

      -- the step was done, and memory ran out for its output
      pub done_cell : ((s : Store) (w : Saved M.Body) → Serves (k.condition s) → k.may_stand s w ↔ (w ≡ k.saved s)) → HasHeard v (carries x)
          → (copy : Option (NodeInput M.Body M.Line)) → IsCopy b0.recording x copy → IsCell M k (cell_of b0 q' u (DownInTurn x copy true) r line)
      done_cell sure heard copy copied =
          record {
            book = h.book;
            id = same.id ∙ h.id;
            size = same.size ∙ h.size;
            setup = same.setup ∙ h.setup;
            honest = h.honest ∙ sym same.honest;
            leader = facts.leader;
            heard = heard;
            together = tt;
            copied = copied;
            up = λ z. absurd (cc z);
            refused = λ z. absurd (cc z);
            counted = h.counted;
            shown = h.shown;
            shows = λ honest.
                let now : own_state M v.size (suc v.node) v.state (Does x) ≡ seen q'.state (v.state.sent ++ output.messages.items) = facts.state honest in
                let holds = done.holds (same.honest ∙ sym h.honest ∙ honest) in (
                  subst (λ (s : Node M.Body). IsIn q'.state s) (sym now) refl,
                  λ w stands.
                      let is : w ≡ saved_by (after_input M v.size (suc v.node) v.state x) = (sure q'.store w holds.0).0 stands ∙ holds.1 ∙ ap saved_by (sym now) in
                      let boot : w.boot ≡ (after_input M v.size (suc v.node) v.state x).boot = ap (λ (z : Saved M.Body). z.boot) is in
                      record {
                        term = ap (λ (z : Saved M.Body). z.term) is;
                        vote = ap (λ (z : Saved M.Body). z.vote) is;
                        log = ap (λ (z : Saved M.Body). z.log) is;
                        low = omega (arith, boot);
                        high = omega (arith, boot);
                      },
                );
          }

    -- ---- a turn in which the node went down
    module _ (x : NodeInput M.Body M.Line) (cause : Cause) (q' : Inner M Setup Hosted Store) (falls : IsDowned M k (act_of M x) q cause q') (same : IsSameNode k q q') where
      pub fallen_cell : HasHeard v (carries x) → (copy : Option (NodeInput M.Body M.Line)) → IsCopy b0.recording x copy → IsCell M k (cell_of b0 q' u (DownInTurn x copy false) r line)
      fallen_cell heard copy copied =
          record {
            book = h.book;
            id = same.id ∙ h.id;
            size = same.size ∙ h.size;
            setup = same.setup ∙ h.setup;
            honest = h.honest ∙ sym same.honest;
            leader = subst (λ (s : NodeState M.Body). KnowsOneOf b0.ether.size (seen s [])) (sym falls.same) h.leader;
            heard = heard;
            together = tt;
            copied = copied;
            up = λ z. absurd (cc z);
            refused = λ z. absurd (cc z);
            counted = h.counted;
            shown = h.shown;
            shows = λ honest. subst (λ (n : ℕ). Shows M k v.size (suc v.node) v.state (DownInTurn x copy false) n q') (sym (h.refused up)) (downed M k c h up x copy cause q' falls same honest);
          }

    -- the node is down, and the rest of the cell is unchanged
    pub falls_in : (x : NodeInput M.Body M.Line) (copy : Option (NodeInput M.Body M.Line)) (done : Bool) (q' : Inner M Setup Hosted Store) → FallsInTurn M c x (cell_of b0 q' u (DownInTurn x copy done) r line)
    falls_in x copy done q' =
        record {
          was_up = up;
          copy = copy;
          done = done;
          phase = refl;
          refused = refl;
          same = record { ether = refl; pass = refl; recording = refl; turns = refl; sent = refl; upstream = refl; shown = refl };
        }

    -- ---- an event that changes nothing of the node
    module _ (event : EventOf M) (o : OutcomeOf M) (b1 : Book M Setup) (still : Still M k c h up event (out_of M o)) (noted : HasNoted M b0 event o b1) where
      state_still : v.honest ≡ true → (view_of b1.pass).state ≡ v.state
      state_still honest = ap (λ (w : ViewOf M). w.state) noted.view ∙ still.state honest

      honest_still : (view_of b1.pass).honest ≡ v.honest
      honest_still = ap (λ (w : ViewOf M). w.honest) noted.view

      counted_still : v.honest ≡ true → b1.sent ≡ length (view_of b1.pass).state.sent
      counted_still honest = noted.sent ∙ h.counted honest ∙ ap (λ (s : Node M.Body). length s.sent) (sym (state_still honest))

      pub still_cell : IsBook M b1 → IsCell M k (cell_of b1 q u p r line)
      still_cell book =
          record {
            book = book;
            id = h.id ∙ ap suc (sym noted.node);
            size = h.size ∙ ap (λ (z : EtherParts Setup). z.size) (sym noted.ether);
            setup = h.setup ∙ ap (λ (z : EtherParts Setup). z.setup) (sym noted.ether);
            honest = honest_still ∙ h.honest;
            leader = subst (λ (z : EtherParts Setup). KnowsOneOf z.size (seen q.state [])) (sym noted.ether) h.leader;
            heard = up_brings_none M (view_of b1.pass) p up;
            together = up_is_together p up;
            copied = up_is_copied b1.recording p up;
            up = h.up;
            refused = h.refused;
            counted = λ is. counted_still (sym honest_still ∙ is);
            shown = λ is. h.shown (sym honest_still ∙ is) ∙ ap (λ (s : Node M.Body). fields_of s) (sym (state_still (sym honest_still ∙ is)));
            shows = λ is. let honest : v.honest ≡ true = sym honest_still ∙ is in
                subst (λ (z : Phase M.Body M.Line M.Target). Shows M k (view_of b1.pass).size (suc (view_of b1.pass).node) (view_of b1.pass).state z r q) (sym up)
                (subst (λ (s : Node M.Body). IsIn q.state s) (sym (state_still honest)) (is_up M k c h up honest), h.up up);
          }

      pub still_event : effects_of (out_of M o) ≡ [] → IsEvent M tally c event o (cell_of b1 q u p r line)
      still_event none =
          record {
            ticket = noted.ticket;
            count = 0;
            view = noted.view;
            sent = noted.sent ∙ omega arith;
            all_sent = λ honest. (h.counted honest, counted_still honest);
            recording = noted.recording;
            turns = noted.turns;
            out = still.out;
            handed = subst (λ (l : List M.Effect). HandsOut (hands M l) (tally u) (tally u)) (sym none) refl;
            ether = noted.ether;
            was_up = up;
            is_up = up;
          }
