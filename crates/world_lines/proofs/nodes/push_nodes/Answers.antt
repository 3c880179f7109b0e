use Rattle.std.proofs.Common.{ap, ◌∙◌, refl}
use Rattle.world_lines.proofs.Rising.{after_node, after_none}
use Rattle.world_lines.proofs.nodes.push_nodes.Goals.{in-Some+in_ok-push_node, in_default}
use Rattle.world_lines.proofs.nodes.push_nodes.Goals as goal

pub loop-number-preserved : goal.loop-number-preserved
loop-number-preserved g c =
    elim c.match-state.branch [
      | in-Some+in_ok-push_node w ↦ after_node _ _ _ w.in-Some.state.now _ _ _ c.loop-number.auto.number w.new.ensures w.in-Some.ensures.some (ap (λ o. o.items) w.out-is ∙ w.in_ok-push_node.ensures) c.loop-number.invariant
      | in_default w ↦ after_none _ _ _ _ _ c.loop-number.auto.number (w.in_default.ensures.none refl) (ap (λ o. o.items) w.out-is) c.loop-number.invariant
    ]
