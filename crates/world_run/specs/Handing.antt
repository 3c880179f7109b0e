-- The lines that are handed upstream, among what came out as the code has it.
use Rattle.std.specs.Prelude.{◌≡◌, ℕ, List, [], ◌∷◌, ◌++◌, map}
use Rattle.irc_line.specs.Lines.{Parts}
use Rattle.machine_laws.specs.Classes.{handed_by}
use Rattle.machine_laws.specs.declared.class.Class.{Class}
use Rattle.raft_node.specs.Machine.{Machine}
use Rattle.world_events.specs.declared.event.Event.{Event}
use Rattle.world_run.specs.declared.outcome.Outcome.{Outcome}
use Rattle.world_run.specs.declared.outcome.Outcome.TheVariants.{Quiet, Left, Looked, Refused, Missing}
use Rattle.world_run.specs.Groups.{IsWorld, WorldParts}
use Rattle.world_run.specs.Told.{events_of}
use Rattle.world_run.specs.World.{handed}

-- the numbers and lines of these effects that are handed upstream
abbrev pub hands_by : {E : Type 0} → (E → Class Parts) → List E → List (ℕ × Parts)
hands_by class [] = []
hands_by class (e ∷ es) = map (λ h. (h.0.0, h.1)) (handed_by (class e)) ++ hands_by class es

module _ {E P : Type 0} (class : E → Class Parts) where
  -- those of what came out
  abbrev pub handed_in : List (Outcome E P) → List (ℕ × Parts)
  handed_in [] = []
  handed_in (Quiet ∷ outs) = handed_in outs
  handed_in (Left place effects ∷ outs) = hands_by class effects.items ++ handed_in outs
  handed_in (Looked place lines ∷ outs) = handed_in outs
  handed_in (Refused refusal ∷ outs) = handed_in outs
  handed_in (Missing ∷ outs) = handed_in outs

-- If this is the world of some events, these are the lines that are handed upstream over them.
abbrev pub IsHandedOf : {Setup : Type 0} (M : Machine) → WorldParts Setup M.Body M.Effect M.Played → List (ℕ × Parts) → Type 0
IsHandedOf M w lines =
    (size : ℕ) (es : List (Event M.Body M.Line M.Target)) → IsWorld M size es w → lines ≡ handed M size (events_of M es)
