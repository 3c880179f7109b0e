-- What the driver's orders submit to nodes.
use Rattle.std.specs.Prelude.{◌≡◌, ℕ, List, [], ◌∷◌, flat_map}
use Rattle.driver.specs.declared.order.Order.{Order}
use Rattle.driver.specs.declared.order.Order.TheVariants.{Submit}
use Rattle.bouncer_tower.specs.Bodies.{TowerBody}
use Rattle.buffer_commands.specs.declared.wire_line.WireLine.{WireLine}
use Rattle.node_notes.specs.declared.note.Note.{Note}

-- what a node is sent
abbrev pub TowerNote : Type 0
TowerNote = Note TowerBody WireLine

-- the note that an order submits, if it submits one, with the number of its node
abbrev pub note_in : Order → List (ℕ × TowerNote)
note_in (Submit node note) = (node, note) ∷ []
note_in order = []

-- the notes of orders, in order
abbrev pub notes_in : List Order → List (ℕ × TowerNote)
notes_in = flat_map note_in

-- each of these nodes was sent its note, once and in order, and nothing else was sent
abbrev pub AreTold : {N : Type 0} → (N → ℕ → TowerNote → N → Type 0) → List (ℕ × TowerNote) → N → N → Type 0
AreTold {N} has_told [] old new = new ≡ old
AreTold {N} has_told (note ∷ notes) old new = (mid : N) × has_told old note.0 note.1 mid × AreTold has_told notes mid new
