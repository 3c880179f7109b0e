-- Lemmas on what the node of a session gets.
use Rattle.std.proofs.Common.{◌≡◌, ◌∷◌, ℕ, List, [], refl, subst, sym}
use Rattle.bouncer_tower.specs.Bodies.{TowerBody}
use Rattle.buffer_commands.specs.declared.wire_line.WireLine.{WireLine}
use Rattle.node_notes.specs.declared.note.Note.{Note}
use Rattle.driver.specs.declared.driver.Driver.{Driver}
use Rattle.driver.specs.Filling.{is_left_out}
use Rattle.driver.specs.Sessions.{TellsAllOf, TellsIf}

-- it gets one note, and then those after it
pub tell_more : (node : ℕ) (came : Note TowerBody WireLine) (left more : List (Note TowerBody WireLine)) (old behind new : Driver) → left ≡ came ∷ more → TellsIf (is_left_out old.level came) node came old behind → TellsAllOf node more behind new → TellsAllOf node left old new
unfolding TellsAllOf
tell_more node came left more old behind new is tells all =
    subst (λ (left : List (Note TowerBody WireLine)). TellsAllOf node left old new) (sym is) (behind, tells, all)

-- no note is left
pub tell_none : (node : ℕ) (left : List (Note TowerBody WireLine)) (driver : Driver) → left ≡ [] → TellsAllOf node left driver driver
unfolding TellsAllOf
tell_none node left driver none =
    subst (λ (left : List (Note TowerBody WireLine)). TellsAllOf node left driver driver) (sym none) refl
