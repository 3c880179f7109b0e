-- What comes out as the code has it and as the definitions have it gives one text.
use Rattle.std.proofs.Common.{◌≡◌, ℕ, zero, suc, ◌≤◌, List, [], ◌∷◌, length, ⊎_elim, refl, ap, ◌∙◌, arith}
use Rattle.std.proofs.lemmas.List.{length-set, length-replicate}
use Rattle.std.specs.Prelude.{Option, Some, None}
use Rattle.raft_log.specs.Lists.{item, with_item}
use Rattle.raft_log.specs.Node.{Node}
use Rattle.raft_log.specs.Peers.{IsGroupSize}
use Rattle.raft_node.specs.Machine.{Machine}
use Rattle.raft_node.specs.Steps.{Own}
use Rattle.agreement.specs.World.{start}
use Rattle.world_events.specs.declared.event.Event.{Event}
use Rattle.world_run.specs.declared.outcome.Outcome.{Outcome}
use Rattle.world_run.specs.declared.outcome.Outcome.TheVariants.{Quiet, Left, Looked, Refused, Missing}
use Rattle.world_run.specs.Groups.{WorldParts}
use Rattle.world_run.specs.Told.{out_of, outs_of, events_of}
use Rattle.world_run.specs.World as world
use Rattle.world_lines.specs.OutputText.{named_node, out_lines, outs_lines}
use Rattle.world_lines.specs.OutcomeText.{IsTextOf, outcome_lines, outcomes_lines, parts_text}

-- Over a machine, the words of its effects and the spelling of what it plays
module _ (M : Machine) (words : M.Effect → List ℕ) (spelled : M.Played → List ℕ) where
  same_out : (number node : ℕ) (out : Outcome M.Effect M.Played) → outcome_lines words spelled number node out ≡ out_lines M words spelled number node (out_of M out)
  same_out number node Quiet = refl
  same_out number node (Left place effects) = refl
  same_out number node (Looked place lines) = refl
  same_out number node (Refused refusal) = refl
  same_out number node Missing = refl

  same_outs : (number : ℕ) (es : List (Event M.Body M.Line M.Target)) (outs : List (Outcome M.Effect M.Played))
      → outcomes_lines words spelled number es outs ≡ outs_lines M words spelled number es (outs_of M outs)
  same_outs number [] outs = refl
  same_outs number (e ∷ es) [] = refl
  same_outs number (e ∷ es) (out ∷ outs) = rw (same_out number (named_node e) out, same_outs (suc number) es outs) refl

  -- the text of a world is the text of its events
  pub told : {Setup : Type 0} (es : List (Event M.Body M.Line M.Target)) (w : WorldParts Setup M.Body M.Effect M.Played) (text : List ℕ)
      → text ≡ parts_text words spelled es w → IsTextOf M words spelled es w text
  told es w text h = λ size is. h ∙ rw (same_outs 1 es w.outs, is.outs, is.nodes) refl
