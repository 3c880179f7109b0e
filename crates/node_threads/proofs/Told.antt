-- That a reported status is that of the node.
use Rattle.std.proofs.Common.{◌≡◌, ◌↔◌, ℕ, List, Option, Some, None, refl, sym, ap, ◌∙◌, subst}
use Rattle.raft_log.specs.declared.node_state.NodeState.{NodeState}
use Rattle.raft_log.specs.declared.role.Role.{Role}
use Rattle.raft_log.specs.declared.role.Role.TheVariants.{Follower, Candidate, Leader}
use Rattle.raft_log.specs.Positions.{role_of}
use Rattle.raft_node.specs.declared.node_fault.Cause.{Cause}
use Rattle.raft_node.specs.Parts.{applied_bodies}
use Rattle.node_cells.specs.declared.phase.Phase.{Phase}
use Rattle.node_cells.specs.declared.phase.Phase.TheVariants.{Up, DownInTurn, DownInTurns, DownInRestart}
use Rattle.node_cells.specs.Cells.{CellParts}
use Rattle.node_cells.specs.Causes.{down_in}
use Rattle.node_notes.specs.declared.status.Status.{Status}
use Rattle.node_notes.specs.Notes as notes
use Rattle.node_notes.specs.Notes.{status_of}
use Rattle.node_threads.specs.Reports.{IsStatusOf, leads_in, leads_up}

pub status_told : {Setup Hosted Store B L T E P U : Type 0} (next_claim : Setup → List (ℕ × B) → Option ℕ) (c : CellParts Setup Hosted Store B L T E P U) (s : Status) (state : NodeState B) (claim : Option ℕ) (down : Option Cause)
    → s ≡ status_of state claim down → state ≡ c.node.state → (down ≡ None) ↔ (c.phase ≡ Up) → down ≡ down_in c → (c.node.down ≡ None → claim ≡ next_claim c.node.setup (applied_bodies c.node.state)) → IsStatusOf next_claim c s
status_told next_claim c s state claim down is same up cause claims =
    subst (λ (z : Status). IsStatusOf next_claim c z) (sym is) (record { told = ap (λ (x : NodeState _). status_of x claim down) same; up = up; cause = cause; claim = claims })

module _ {B L T : Type 0} where
  by_phase : (p : Phase B L T) (role : Role) (down : Option Cause) → (down ≡ None) ↔ (p ≡ Up) → notes.leads_up role down ≡ leads_up p role
  by_phase Up Leader None h = refl
  by_phase Up Leader (Some cause) h = absurd (let z : Some cause ≡ None = h.1 refl in cc z)
  by_phase Up Follower down h = refl
  by_phase Up Candidate down h = refl
  by_phase (DownInTurn x copy done) Leader None h = absurd (let z = h.0 refl in cc z)
  by_phase (DownInTurn x copy done) Leader (Some cause) h = refl
  by_phase (DownInTurn x copy done) Follower down h = refl
  by_phase (DownInTurn x copy done) Candidate down h = refl
  by_phase (DownInTurns inputs copies answers) Leader None h = absurd (let z = h.0 refl in cc z)
  by_phase (DownInTurns inputs copies answers) Leader (Some cause) h = refl
  by_phase (DownInTurns inputs copies answers) Follower down h = refl
  by_phase (DownInTurns inputs copies answers) Candidate down h = refl
  by_phase DownInRestart Leader None h = absurd (let z = h.0 refl in cc z)
  by_phase DownInRestart Leader (Some cause) h = refl
  by_phase DownInRestart Follower down h = refl
  by_phase DownInRestart Candidate down h = refl

pub leads_told : {Setup Hosted Store B L T E P U : Type 0} (next_claim : Setup → List (ℕ × B) → Option ℕ) (c : CellParts Setup Hosted Store B L T E P U) (s : Status) → IsStatusOf next_claim c s
    → notes.leads s ≡ leads_in c
leads_told next_claim c s h = ap (λ (z : Status). notes.leads_up z.role s.down) h.told ∙ by_phase c.phase (role_of c.node.state.standing.position) s.down h.up
