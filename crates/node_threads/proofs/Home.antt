-- That a cell stays its node's, whatever is done with it.
use Rattle.std.proofs.Common.{◌≡◌, ℕ, zero, suc, Bool, List, [], ◌∷◌, ◌++◌, map, Option, Some, None, Result, Ok, Err, refl, sym, ap, ◌∙◌, subst, ⊎_elim}
use Rattle.raft_node.specs.declared.input.Looked.{Looked as PlayedAt}
use Rattle.raft_node.specs.declared.node_fault.NodeFault.TheVariants.{Down, Refused}
use Rattle.raft_node.specs.Machine.{Machine}
use Rattle.world_views.specs.declared.envelope.Envelope.{Envelope}
use Rattle.world_views.specs.Inputs.{NodeInput}
use Rattle.world_views.specs.Own.{EventOf, TurnOf, ViewOf}
use Rattle.world_views.specs.Views.{View}
use Rattle.ether.specs.Passes.{view_of}
use Rattle.ether.specs.Plays.{after_event, after_post, after_take}
use Rattle.node_cells.specs.declared.cell_fault.CellFault.{CellFault}
use Rattle.node_cells.specs.declared.cell_fault.CellFault.TheVariants.{Memory, Spent, Node}
use Rattle.node_cells.specs.declared.record.TurnOutput.{TurnOutput}
use Rattle.node_cells.specs.Books.{OutcomeOf, turn_in}
use Rattle.node_cells.specs.Cells.{CellParts, view_in}
use Rattle.node_cells.specs.Openings.{HasSeenTo, HasTakenIn}
use Rattle.node_cells.specs.Posts.{posts_from}
use Rattle.node_cells.specs.Restarts.{HasRestarted, after_turns}
use Rattle.node_cells.specs.Turns.{CellOf, HasLooked, HasTurned, IsDownAs, IsEvent}
use Rattle.node_cells.specs.Upstreams.{Tally}
use Rattle.node_cells.specs.Inputs.{Answer}
use Rattle.node_threads.specs.Homes.{IsLaterView, IsSameHome}
use Rattle.node_threads.specs.Together.{HasTurnedAll, HaveTurned}
use Rattle.node_threads.specs.Work.{HasHadTurn}

module _ {B L T : Type 0} where
  pub same_view : (v : View B L T) → IsLaterView v v
  same_view v = record { size = refl; node = refl; honest = refl; opened = refl }

  pub later_still : (u v w : View B L T) → IsLaterView u v → IsLaterView v w → IsLaterView u w
  later_still u v w h k = record { size = k.size ∙ h.size; node = k.node ∙ h.node; honest = k.honest ∙ h.honest; opened = k.opened ∙ h.opened }

  posts_later : (v w : View B L T) → IsLaterView v w → (n k : ℕ) → IsLaterView v (posts_from w n k)
  posts_later v w h n zero = h
  posts_later v w h n (suc k) = posts_later v (after_post w (suc n)) (record { size = h.size; node = h.node; honest = h.honest; opened = h.opened }) (suc n) k

  take_later : (v : View B L T) (came : Option (Envelope B)) → IsLaterView v (after_take v came)
  take_later v None = same_view v
  take_later v (Some e) = record { size = refl; node = refl; honest = refl; opened = refl }

module _ {Setup Hosted Store B L T E P U : Type 0} where
  pub same_home : (c d : CellParts Setup Hosted Store B L T E P U) → d ≡ c → IsSameHome c d
  same_home c d is = subst (λ (z : CellParts Setup Hosted Store B L T E P U). IsSameHome c z) (sym is) (record { ether = refl; recording = refl; view = same_view (view_in c) })

  pub same_home_still : (b c d : CellParts Setup Hosted Store B L T E P U) → IsSameHome b c → IsSameHome c d → IsSameHome b d
  same_home_still b c d h k = record { ether = k.ether ∙ h.ether; recording = k.recording ∙ h.recording; view = later_still (view_in b) (view_in c) (view_in d) h.view k.view }

  pub home_after_take : (c : CellParts Setup Hosted Store B L T E P U) (from : ℕ) (came : Option (Envelope B)) (d : CellParts Setup Hosted Store B L T E P U)
      → HasTakenIn c from came d → IsSameHome c d
  home_after_take c from came d h = record { ether = h.same.ether; recording = h.same.recording; view = subst (λ (v : View B L T). IsLaterView (view_in c) v) (sym h.view) (take_later (view_in c) came) }

  pub home_after_seen : (c : CellParts Setup Hosted Store B L T E P U) (to : ℕ) (taken : Bool) (d : CellParts Setup Hosted Store B L T E P U) → HasSeenTo c to taken d → IsSameHome c d
  home_after_seen c to taken d h =
      record { ether = h.same.ether; recording = h.same.recording; view = subst (λ (v : View B L T). IsLaterView (view_in c) v) (sym h.view) (same_view (view_in c)) }

module _ (M : Machine) where
  event_later : (v : ViewOf M) (t : ℕ) (e : EventOf M) → IsLaterView v (after_event M v t e)
  event_later v t e = record { size = refl; node = refl; honest = refl; opened = refl }

  turns_later : (v w : ViewOf M) → IsLaterView v w → (turns : List (TurnOf M)) → IsLaterView v (after_turns M w turns)
  turns_later v w h [] = h
  turns_later v w h (t ∷ turns) = turns_later v (after_event M w t.0 t.1) (later_still v w (after_event M w t.0 t.1) h (event_later w t.0 t.1)) turns

module _ (M : Machine) {Setup Hosted Store U : Type 0} where
  down_home : (c d : CellOf M Setup Hosted Store U) → IsDownAs M c d → IsSameHome c d
  down_home c d h =
      record { ether = h.ether; recording = h.recording; view = subst (λ (v : ViewOf M). IsLaterView (view_in c) v) (ap view_of (sym h.pass)) (same_view (view_in c)) }

  module _ (tally : U → Tally) where
    event_home : (c : CellOf M Setup Hosted Store U) (e : EventOf M) (o : OutcomeOf M) (d : CellOf M Setup Hosted Store U) → IsEvent M tally c e o d → IsSameHome c d
    event_home c e o d h =
        let w = after_event M (view_in c) h.ticket e in
        record {
          ether = h.ether;
          recording = h.recording;
          view = subst (λ (v : ViewOf M). IsLaterView (view_in c) v) (sym h.view) (posts_later (view_in c) w (event_later M (view_in c) h.ticket e) c.sent h.count);
        }

    pub home_after_turn : (c : CellOf M Setup Hosted Store U) (x : NodeInput M.Body M.Line) (answer : Result (TurnOutput M.Body M.Effect) CellFault) (d : CellOf M Setup Hosted Store U)
        → HasTurned M tally c x answer d → IsSameHome c d
    home_after_turn c x (Ok output) d h = event_home c _ h.outcome d h.event
    home_after_turn c x (Err Memory) d h = same_home c d h
    home_after_turn c x (Err Spent) d h = same_home c d h.0
    home_after_turn c x (Err (Node (Refused refusal))) d h = event_home c _ _ d h
    home_after_turn c x (Err (Node (Down cause))) d h = ⊎_elim (λ f. down_home c d f.same) (λ w. same_home c d w.1) h

    pub home_after_look : (c : CellOf M Setup Hosted Store U) (from_place : ℕ) (target : M.Target) (answer : Result (PlayedAt M.Played) CellFault) (d : CellOf M Setup Hosted Store U)
        → HasLooked M tally c from_place target answer d → IsSameHome c d
    home_after_look c from_place target (Ok looked) d h = event_home c _ h.outcome d h.event
    home_after_look c from_place target (Err Memory) d h = same_home c d h
    home_after_look c from_place target (Err Spent) d h = same_home c d h.0
    home_after_look c from_place target (Err (Node (Refused refusal))) d h = event_home c _ _ d h
    home_after_look c from_place target (Err (Node (Down cause))) d h = same_home c d h.0

    pub home_after_input : (c : CellOf M Setup Hosted Store U) (x : NodeInput M.Body M.Line) (d : CellOf M Setup Hosted Store U) → HasHadTurn M tally c x d → IsSameHome c d
    home_after_input c x d h = home_after_turn c x h.answer d h.turned

  pub home_after_restart : (c : CellOf M Setup Hosted Store U) (answer : Result (Unit {0}) CellFault) (d : CellOf M Setup Hosted Store U) → HasRestarted M c answer d → IsSameHome c d
  home_after_restart c (Ok done) d h =
      record {
        ether = h.ether;
        recording = h.recording;
        view = subst (λ (v : ViewOf M). IsLaterView (view_in c) v) (sym h.view) (turns_later M (view_in c) (view_in c) (same_view (view_in c)) (map (turn_in M) h.first ++ h.more));
      }
  home_after_restart c (Err Memory) d h = same_home c d h
  home_after_restart c (Err Spent) d h = same_home c d h.0
  home_after_restart c (Err (Node fault)) d h = down_home c d h.same

  pub home_together : (c : CellOf M Setup Hosted Store U) (inputs : List (NodeInput M.Body M.Line)) (answer : Result (List Answer) CellFault) (d : CellOf M Setup Hosted Store U)
      → HaveTurned M c inputs answer d → IsSameHome c d
  home_together c inputs (Ok answers) d h =
      record {
        ether = h.ether;
        recording = h.recording;
        view = subst (λ (v : ViewOf M). IsLaterView (view_in c) v) (sym h.view) (turns_later M (view_in c) (view_in c) (same_view (view_in c)) (map (turn_in M) h.noted));
      }
  home_together c inputs (Err Memory) d h = same_home c d h
  home_together c inputs (Err Spent) d h = same_home c d h.0
  home_together c inputs (Err (Node (Refused refusal))) d h = absurd h
  home_together c inputs (Err (Node (Down cause))) d h = ⊎_elim (λ f. down_home c d f.same) (λ w. same_home c d w.1) h

  -- after inputs that were gathered were done
  pub home_after_all : (inputs : List (NodeInput M.Body M.Line)) (c d : CellOf M Setup Hosted Store U) → HasTurnedAll M inputs c d → IsSameHome c d
  home_after_all [] c d h = same_home c d h
  home_after_all (x ∷ inputs) c d h = home_together c (x ∷ inputs) h.answer d h.turned
