-- What threads leave that are joined one by one, in order.
use Rattle.std.specs.Prelude.{◌≡◌, List, [], ◌∷◌}

module _ {C H : Type 0} (joins : C → H → C → Type 0) where
  -- these threads were joined, and what was left became that
  abbrev pub JoinsAll : C → List H → C → Type 0
  JoinsAll c [] d = d ≡ c
  JoinsAll c (t ∷ ts) d = (b : C) × joins c t b × JoinsAll b ts d

-- each of these may be joined after those before it
abbrev pub CanJoinAll : {C H : Type 0} → (C → H → Type 0) → (C → H → C → Type 0) → C → List H → Type 0
CanJoinAll can joins c [] = Unit {0}
CanJoinAll {C} can joins c (t ∷ ts) = can c t × ((d : C) → joins c t d → CanJoinAll can joins d ts)
