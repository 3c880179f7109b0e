-- The lines of outcomes, one event after another.
use Rattle.std.proofs.Common.{◌≡◌, ℕ, suc, ◌+◌, ◌<◌, List, ◌∷◌, ◌++◌, length, drop, get_or, refl, subst, ◌∙◌, append_assoc, arith}
use Rattle.std.proofs.lemmas.Option.{slice_get_read}
use Rattle.std.specs.Prelude.{Some, slice_get}
use Rattle.world_events.specs.declared.event.Event.{Event}
use Rattle.world_run.specs.declared.outcome.Outcome.{Outcome}
use Rattle.world_lines.specs.OutputText.{named_node}
use Rattle.world_lines.specs.OutcomeText.{outcome_lines, outcomes_lines}
use Rattle.world_lines.proofs.Fronts.{front_is}

-- Over the words of effects and the spelling of what is played
module _ {B L T E P : Type 0} (words : E → List ℕ) (spelled : P → List ℕ) where
  -- the lines of an outcome were written: those of the outcomes after it are left
  pub after_outcome : (es : List (Event B L T)) (outs : List (Outcome E P)) (k node : ℕ) (event : Event B L T) (outcome : Outcome E P) (out new whole : List ℕ)
      → k < length es → event ≡ get_or es k event → slice_get outs k ≡ Some outcome → node ≡ named_node event → new ≡ out ++ outcome_lines words spelled (k + 1) node outcome
      → out ++ outcomes_lines words spelled (suc k) (drop k es) (drop k outs) ≡ whole → new ++ outcomes_lines words spelled (suc (k + 1)) (drop (k + 1) es) (drop (k + 1) outs) ≡ whole
  after_outcome es outs k node event outcome out new whole lt at got names e h =
      let next : k + 1 ≡ suc k = omega arith in
      let read : slice_get es k ≡ Some event = slice_get_read es (length es) k event refl lt at in
      let first : out ++ outcomes_lines words spelled (suc k) (event ∷ drop (suc k) es) (drop k outs) ≡ whole =
      subst (λ (rest : List (Event B L T)). out ++ outcomes_lines words spelled (suc k) rest (drop k outs) ≡ whole) (front_is es k event read) h in
      let both : out ++ (outcome_lines words spelled (suc k) (named_node event) outcome ++ outcomes_lines words spelled (suc (suc k)) (drop (suc k) es) (drop (suc k) outs)) ≡ whole =
      subst (λ (rest : List (Outcome E P)). out ++ outcomes_lines words spelled (suc k) (event ∷ drop (suc k) es) rest ≡ whole) (front_is outs k outcome got) first in
      rw (e, next, names) (append_assoc out (outcome_lines words spelled (suc k) (named_node event) outcome) (outcomes_lines words spelled (suc (suc k)) (drop (suc k) es) (drop (suc k) outs)) ∙ both)
