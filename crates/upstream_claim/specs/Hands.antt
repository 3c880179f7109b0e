-- The lines that are handed out.
use Rattle.std.specs.Prelude.{ℕ, List, [], ◌∷◌, ◌++◌, Option}
use Rattle.irc_line.specs.Lines.{Parts}
use Rattle.wire_bytes.specs.declared.session_id.SessionId.{SessionId}
pub use Rattle.machine_laws.specs.Classes.{Handed}
use Rattle.machine_laws.specs.Runs.{History, all_effects}
use Rattle.wire_bytes.specs.declared.origin.Origin.{Origin}
use Rattle.upstream_claim.specs.declared.command.ClaimsCommand.{ClaimsCommand}
use Rattle.upstream_claim.specs.declared.effect.ClaimsEffect.{ClaimsEffect}
use Rattle.upstream_claim.specs.declared.effect.ClaimsEffect.TheVariants.{Hand}
use Rattle.upstream_claim.specs.Numbered.{answers}

module _ {E : Type 0} where
  -- the line that an effect hands out
  abbrev pub hand_of : ClaimsEffect E → List Handed
  hand_of (Hand id n line) = ((n, id), line) ∷ []
  hand_of _ = []

  -- the lines that effects hand out, in order
  abbrev pub hands : List (ClaimsEffect E) → List Handed
  hands [] = []
  hands (e ∷ es) = hand_of e ++ hands es

-- the lines that the commands of a history handed out, in order
abbrev pub handed_over : {C E : Type 0} → (History C → Option SessionId) → (E → Option (Origin × Parts)) → (History C → ℕ → C → List E) → History (ClaimsCommand C) → List Handed
handed_over session sends effects h = hands (all_effects (answers session sends effects) h)
