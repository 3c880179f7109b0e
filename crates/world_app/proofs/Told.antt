-- Sizes that are asked for, and the text of a world.
use Rattle.std.proofs.Common.{◌≡◌, ℕ, ◌≤◌, List, sym, ◌∙◌, arith}
use Rattle.std.proofs.lemmas.Fmt.{decimal_injective}
use Rattle.std.specs.Prelude.{Result, Ok, Err, IfOk, decimal}
use Rattle.recorder.specs.Readings.{IsWord}
use Rattle.irc_line.specs.Lines.{Parts}
use Rattle.buffer_commands.specs.Settings.{Settings}
use Rattle.bouncer_tower.specs.Bodies.{TowerBody, TowerEffect}
use Rattle.world_events.specs.declared.event.Event.{Event}
use Rattle.world_run.specs.Groups.{IsWorld, WorldParts}
use Rattle.world_lines.specs.OutcomeText.{IsTextOf}
use Rattle.headline.specs.Tower.{tower}
use Rattle.world_app.specs.Worlds.{IsAskable, bouncer_text, tower_words}

-- a number of ten digits is the only one of its digits, so there is none that may be asked for
pub too_long : (number : ℕ) (bytes : List ℕ) → IsWord number → decimal number ≡ bytes → 1000000000 ≤ number → (a : ℕ) → IsAskable a → decimal a ≡ bytes → ⊥
too_long number bytes word spelled long a short e =
    let same : a ≡ number = decimal_injective a number (omega (arith, short)) word (e ∙ sym spelled) in absurd (omega (arith, same, short, long))

-- the text of the world of these events, over a setup, is their text
pub told_so :
    {V E : Type 0} (setup : Settings) (r : Result V E) (items : V → List ℕ) (size : ℕ) (events : List (Event TowerBody Parts (List ℕ))) (w : WorldParts Settings TowerBody TowerEffect (List ℕ)) →
    IfOk r (λ v. (s : Settings) → IsTextOf (tower s) tower_words (λ line. line) events w (items v)) → IsWorld (tower setup) size events w →
    IfOk r (λ v. items v ≡ bouncer_text setup size events)
told_so setup (Ok v) items size events w told is = told setup size is
told_so setup (Err e) items size events w told is = tt
