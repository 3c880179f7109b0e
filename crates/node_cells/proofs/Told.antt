-- What is noted, by what clauses see of it.
use Rattle.std.proofs.Common.{◌≡◌, suc, true, Some, sym, ap, ◌∙◌, subst}
use Rattle.raft_node.specs.Machine.{Machine}
use Rattle.world_run.specs.Told.{out_of}
use Rattle.world_views.specs.declared.node_event.NodeEvent.{NodeEvent}
use Rattle.world_views.specs.Own.{EventOf, ViewOf, own_out}
use Rattle.world_views.specs.Views.{View}
use Rattle.ether.specs.Passes.{IsHeard}
use Rattle.node_cells.specs.declared.for_record.ForRecord.{ForRecord}
use Rattle.node_cells.specs.declared.record.Recording.{Recording}
use Rattle.node_cells.specs.Books.{HasNoted, OutcomeOf}
use Rattle.node_cells.specs.Copies.{IsKept}
use Rattle.node_cells.proofs.Recorded.{Book}

-- what exists anyway is kept
pub whole_kept : {A : Type 0} (recording : Recording) (r : ForRecord A) (x : A) → (r.told.value ≡ x) × (r.kept ≡ Some x) → IsKept recording r
whole_kept recording r x h = λ on. h.1 ∙ ap Some (sym h.0)

pub heard_as : {B L T : Type 0} (v : View B L T) (e f : NodeEvent B L T) → e ≡ f → IsHeard v f → IsHeard v e
heard_as {B} {L} {T} v e f is h = subst (λ (z : NodeEvent B L T). IsHeard v z) (sym is) h

module _ (M : Machine) where
  pub out_as : (v : ViewOf M) (e f : EventOf M) (o p : OutcomeOf M) → e ≡ f → o ≡ p → (v.honest ≡ true → out_of M p ≡ own_out M v.size (suc v.node) v.state f)
      → v.honest ≡ true → out_of M o ≡ own_out M v.size (suc v.node) v.state e
  out_as v e f o p is comes h honest =
      ap (λ (z : OutcomeOf M). out_of M z) comes ∙ h honest ∙ ap (λ (z : EventOf M). own_out M v.size (suc v.node) v.state z) (sym is)

  pub noted_as : {Setup : Type 0} (b d : Book M Setup) (e f : EventOf M) (o p : OutcomeOf M) → e ≡ f → o ≡ p → HasNoted M b e o d → HasNoted M b f p d
  noted_as b d e f o p is comes h = subst (λ (z : EventOf M × OutcomeOf M). HasNoted M b z.0 z.1 d) (λ t. (is t, comes t)) h
