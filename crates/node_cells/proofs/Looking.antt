-- A cell after a look.
use Rattle.std.proofs.Common.{◌≡◌, ℕ, ◌≤◌, Bool, true, false, cond, ltb, List, [], ⊎_elim, Some, None, Result, Err, refl, sym, ap, ◌∙◌, subst}
use Rattle.std.proofs.lemmas.Bool.{ltb-false}
use Rattle.raft_log.specs.declared.message.Message.{Message}
use Rattle.raft_log.specs.Node.{Node}
use Rattle.raft_log.specs.Seen.{seen}
use Rattle.recorder.specs.declared.node_line.NodeFields.{NodeFields}
use Rattle.node_steps.specs.declared.refusal.Refusal.TheVariants.{Behind}
use Rattle.raft_node.specs.declared.input.Looked.{Looked as PlayedAt}
use Rattle.raft_node.specs.declared.node_fault.Cause.{Cause}
use Rattle.raft_node.specs.declared.node_fault.Cause.TheVariants.{Memory as NoMemory}
use Rattle.raft_node.specs.declared.node_fault.NodeFault.{NodeFault}
use Rattle.raft_node.specs.declared.node_fault.NodeFault.TheVariants.{Down}
use Rattle.raft_node.specs.Machine.{Machine}
use Rattle.raft_node.specs.Parts.{Keeper}
use Rattle.raft_node.specs.Stepping.{IsLooked, turned}
use Rattle.raft_node.specs.Steps.{Looks, Out, Turn, looked, refused}
use Rattle.raft_node.specs.Steps as steps
use Rattle.world_run.specs.Told.{out_of}
use Rattle.world_views.specs.declared.node_event.NodeEvent.TheVariants.{Look}
use Rattle.node_cells.specs.declared.phase.Phase.{Phase}
use Rattle.node_cells.specs.declared.phase.Phase.TheVariants.{Up}
use Rattle.node_cells.specs.Books.{HasNoted, OutcomeOf}
use Rattle.node_cells.specs.Cells.{IsCell, cell_of}
use Rattle.node_cells.specs.Turns.{IsLookedAt}
use Rattle.node_cells.specs.Upstreams.{Tally}
use Rattle.node_cells.proofs.Recorded.{Book}
use Rattle.node_cells.proofs.Showing.{Inner, is_up, looked_still}
use Rattle.node_cells.proofs.Turning.{still_event}

module _ (M : Machine) where
  by_test : (s : Node M.Body) (from place : ℕ) (more lines : List M.Played) (b : Bool) → ltb s.applied from ≡ b
      → (let t : Turn M = cond b (refused M s (Behind s.applied)) (record { node = s; out = steps.Looked s.applied more }) in t.out) ≡ steps.Looked place lines → (from ≤ place) × (place ≡ s.applied)
  by_test s from place more lines true t h = absurd (cc h)
  by_test s from place more lines false t h =
      let is : s.applied ≡ place = cc h in
      (subst (λ (m : ℕ). from ≤ m) is (ltb-false s.applied from t), sym is)

  -- a look is answered at the place up to which the node has applied, which is not before the one that it asks for
  pub at_applied : (s : Node M.Body) (from place : ℕ) (target : M.Target) (lines : List M.Played) → (looked M s from target).out ≡ steps.Looked place lines → (from ≤ place) × (place ≡ s.applied)
  at_applied s from place target lines h = by_test s from place (M.playback (steps.applied_history M s) target) lines (ltb s.applied from) refl h

module _ (M : Machine) {Setup Hosted Store U : Type 0} (k : Keeper Store M.Body) (tally : U → Tally) where
  module _ (b0 b1 : Book M Setup) (q : Inner M Setup Hosted Store) (u : U) (p : Phase M.Body M.Line M.Target) (r : ℕ) (line : NodeFields) (h : IsCell M k (cell_of b0 q u p r line)) (up : p ≡ Up) (from : ℕ) (target : M.Target) where
    pub look_is : (looked' : PlayedAt M.Played) (o : OutcomeOf M) → out_of M o ≡ steps.Looked looked'.place looked'.lines.items
        → ((sent : List (Message M.Body)) → turned M (Looks from target) q sent ≡ record { node = seen q.state sent; out = out_of M o })
        → HasNoted M b0 (Look from target) o b1 → IsLookedAt M tally (cell_of b0 q u p r line) from target looked' (cell_of b1 q u p r line)
    look_is looked' o gives comes noted =
        let at = at_applied M (seen q.state []) from looked'.place target looked'.lines.items (ap (λ (t : Turn M). t.out) (comes []) ∙ gives) in
        record {
          outcome = o;
          event = still_event M k tally b0 q u p r line h up (Look from target) o b1 (looked_still M k (cell_of b0 q u p r line) h up from target (out_of M o) comes) noted (ap (λ (x : Out M). steps.effects_of x) gives);
          gives = gives;
          late = at.0;
          applied = λ honest. at.1 ∙ ap (λ (s : Node M.Body). s.applied) (is_up M k (cell_of b0 q u p r line) h up honest);
        }

  -- a look for which memory ran out
  pub no_memory : (from : ℕ) (target : M.Target) (q : Inner M Setup Hosted Store) (cause : Cause) → q.down ≡ None
      → (let result : Result (PlayedAt M.Played) NodeFault = Err (Down cause) in IsLooked M from target q result) → cause ≡ NoMemory
  no_memory from target q cause up h =
      ⊎_elim (λ (e : q.down ≡ Some cause). absurd (let z : None ≡ Some cause = sym up ∙ e in cc z)) (λ e. e.1) h
