-- One input alone, as several that were saved together.
use Rattle.std.proofs.Common.{◌≡◌, List, [], ◌∷◌, ◌++◌, map, Ok, Err, refl, sym, ap, ◌∙◌, subst, arith}
use Rattle.raft_node.specs.Machine.{Machine}
use Rattle.raft_node.specs.Steps.{effects_of}
use Rattle.world_run.specs.Told as told
use Rattle.world_run.specs.World.{hands}
use Rattle.world_views.specs.declared.node_event.NodeEvent.TheVariants.{Does}
use Rattle.world_views.specs.Inputs.{NodeInput}
use Rattle.world_views.specs.Own.{EventOf}
use Rattle.ether.specs.Plays.{after_event}
use Rattle.node_cells.specs.Books.{NotedOf, recorded_by, turn_in}
use Rattle.node_cells.specs.Cells.{view_in}
use Rattle.node_cells.specs.Inputs.{Answer}
use Rattle.node_cells.specs.Restarts.{AreNoted, after_turns, outcome_by}
use Rattle.node_cells.specs.Together.{AreTurned, OneIsATurn}
use Rattle.node_cells.specs.Turns.{CellOf, IsEvent}
use Rattle.node_cells.specs.Upstreams.{HandsOut, Tally}
use Rattle.node_cells.proofs.Noting.{out_by}

module _ (M : Machine) where
  -- an answer has no effects
  none_by : (a : Answer) → effects_of (told.out_of M (outcome_by a)) ≡ []
  none_by (Ok done) = refl
  none_by (Err refusal) = refl

module _ (M : Machine) {Setup Hosted Store U : Type 0} (tally : U → Tally) where
  -- one input alone
  one_event : (c d : CellOf M Setup Hosted Store U) (x : NodeInput M.Body M.Line) (a : Answer) (h : AreTurned M c (x ∷ []) (a ∷ []) d) (noted' : List (NotedOf M)) → h.noted ≡ noted'
      → AreNoted M ((Does x, a) ∷ []) noted' → IsEvent M tally c (Does x) (outcome_by a) d
  one_event c d x a h [] is are = absurd are
  one_event c d x a h (t ∷ u ∷ more) is are = absurd are.2
  one_event c d x a h (t ∷ []) is are =
      record {
        ticket = t.ticket;
        count = 0;
        view = h.view ∙ ap (λ (l : List (NotedOf M)). after_turns M (view_in c) (map (turn_in M) l)) is ∙ ap (λ (e : EventOf M). after_event M (view_in c) t.ticket e) are.0;
        sent = h.sent ∙ omega arith;
        all_sent = h.all_sent;
        recording = h.recording;
        turns = h.turns ∙ ap (λ (l : List (NotedOf M)). c.turns ++ recorded_by c.recording l) is
            ∙ (λ i. c.turns ++ recorded_by c.recording (record { ticket = t.ticket; event = are.0 i; outcome = are.1 i } ∷ []));
        out = λ honest. out_by M a ∙ sym (h.outs honest).0;
        handed = subst (λ (l : List M.Effect). HandsOut (hands M l) (tally c.upstream) (tally d.upstream)) (sym (none_by M a)) (ap tally h.upstream);
        ether = h.ether;
        was_up = h.was_up;
        is_up = h.is_up;
      }

  pub one_is_a_turn : OneIsATurn M Setup Hosted Store tally
  one_is_a_turn c d x a h = one_event c d x a h h.noted refl h.are
