-- What was taken was heard.
use Rattle.std.proofs.Common.{◌≡◌, ◌∷◌, ◌++◌, [], length, Some, refl, sym, subst}
use Rattle.atomic_table.proofs.Lists.{at_last}
use Rattle.world_views.specs.declared.envelope.Envelope.{Envelope}
use Rattle.world_views.specs.declared.node_event.NodeEvent.TheVariants.{Does}
use Rattle.raft_node.specs.declared.input.Input.TheVariants.{Deliver}
use Rattle.world_views.specs.Views.{IsAt, View}
use Rattle.ether.specs.Passes.{IsHeard}
use Rattle.ether.specs.Plays.{after_take}

pub heard_last : {B L T : Type 0} → (v w : View B L T) (x : Envelope B) → w ≡ after_take v (Some x) → IsHeard w (Does (Deliver x))
heard_last {B} {L} {T} v w x is m h =
    let same : x ≡ m = cc h in
    (length v.heard, subst (λ (z : View B L T). IsAt z.heard (length v.heard) m) (sym is) (subst (λ (z : Envelope B). IsAt (v.heard ++ x ∷ []) (length v.heard) z) same (at_last v.heard x (length v.heard) refl)))
