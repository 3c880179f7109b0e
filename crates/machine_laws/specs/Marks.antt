-- Which bodies are marks.
use Rattle.std.specs.Prelude.{◌≡◌}
use Rattle.wire_bytes.specs.declared.mark.Mark.{Mark}

-- the body is the one for this mark, and for no other
abbrev pub IsBodyOf : {Body : Type 0} → (Mark → Body) → Body → Mark → Type 0
IsBodyOf mark body m = (body ≡ mark m) × ((other : Mark) → body ≡ mark other → other ≡ m)
