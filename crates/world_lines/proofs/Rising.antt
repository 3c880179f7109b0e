-- The lines of nodes by rising number.
use Rattle.std.proofs.Common.{◌≡◌, ℕ, zero, suc, ◌+◌, ◌-◌, ◌≤◌, List, [], ◌++◌, length, drop, subst, ◌∙◌, append_assoc, arith}
use Rattle.std.proofs.lemmas.List.{drop_all}
use Rattle.std.specs.Prelude.{None}
use Rattle.raft_log.specs.declared.node_state.NodeState.{NodeState}
use Rattle.raft_log.specs.Lists.{item}
use Rattle.raft_log.specs.Node.{Node}
use Rattle.raft_log.specs.Seen.{seen}
use Rattle.recorder.specs.NodeLines.{node_line}
use Rattle.world_run.specs.Groups.{IsNodeOf}
use Rattle.world_lines.specs.OutputText.{node_lines}
use Rattle.world_lines.proofs.Fronts.{front_is, none_behind}

module _ {B : Type 0} where
  -- the line of the node of this number was written: those of the nodes after it are left
  pub after_node : (nodes : List (Node B)) (number id : ℕ) (state : NodeState B) (out new whole : List ℕ) → 1 ≤ number → id ≡ number → IsNodeOf nodes number state → new ≡ out ++ node_line id (seen state [])
      → out ++ node_lines number (drop (number - 1) nodes) ≡ whole → new ++ node_lines (number + 1) (drop (number + 1 - 1) nodes) ≡ whole
  after_node nodes zero id state out new whole pos same is e h = absurd (omega (arith, pos))
  after_node nodes (suc k) id state out new whole pos same is e h =
      let here : suc k - 1 ≡ k = omega arith in
      let on : suc k + 1 - 1 ≡ suc k = omega arith in
      let next : suc k + 1 ≡ suc (suc k) = omega arith in
      let left : out ++ node_lines (suc k) (drop k nodes) ≡ whole = subst (λ (n : ℕ). out ++ node_lines (suc k) (drop n nodes) ≡ whole) here h in
      let split : out ++ (node_line (suc k) (seen state []) ++ node_lines (suc (suc k)) (drop (suc k) nodes)) ≡ whole =
      subst (λ (rest : List (Node B)). out ++ node_lines (suc k) rest ≡ whole) (front_is nodes k (seen state is.0) is.1) left in
      rw (on, next, e, same) (append_assoc out (node_line (suc k) (seen state [])) (node_lines (suc (suc k)) (drop (suc k) nodes)) ∙ split)

  -- there is no node of this number: none is left
  pub after_none : (nodes : List (Node B)) (number : ℕ) (out new whole : List ℕ) → 1 ≤ number → item nodes number ≡ None → new ≡ out
      → out ++ node_lines number (drop (number - 1) nodes) ≡ whole → new ++ node_lines (number + 1) (drop (number + 1 - 1) nodes) ≡ whole
  after_none nodes zero out new whole pos none e h = absurd (omega (arith, pos))
  after_none nodes (suc k) out new whole pos none e h =
      let past : length nodes ≤ k = none_behind nodes k none in
      let here : drop (suc k - 1) nodes ≡ [] = drop_all _ nodes (omega (arith, past)) in
      let on : drop (suc k + 1 - 1) nodes ≡ [] = drop_all _ nodes (omega (arith, past)) in
      let left : out ++ [] ≡ whole = subst (λ (rest : List (Node B)). out ++ node_lines (suc k) rest ≡ whole) here h in
      rw (on, e) left
