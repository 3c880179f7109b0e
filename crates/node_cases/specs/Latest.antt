-- A machine whose bodies are marks.
use Rattle.std.specs.Prelude.{◌≡◌, ◌↔◌, ℕ, [], ◌∷◌, Option, Some}
use Rattle.std.proofs.Common.{sym, ap, ◌∙◌}
use Rattle.wire_bytes.specs.declared.mark.Mark.{Mark}
use Rattle.machine_laws.specs.Runs.{History}
use Rattle.machine_laws.specs.Marks.{IsBodyOf}

-- what is no run's mark
abbrev pub no_mark : Mark
no_mark = record { node = 0; boot = 0; number = 0 }

-- the number of the last mark, 0 without one
abbrev pub last_number : History Mark → ℕ
last_number [] = 0
last_number (x ∷ earlier) = x.1.number

-- a body is its own mark
pub tells_itself : (body m : Mark) → (let told : Option Mark = Some body in told ≡ Some m) ↔ IsBodyOf (λ x. x) body m
tells_itself body m = (
  λ e. let same : body ≡ m = cc e in (same, λ other f. sym f ∙ same),
  λ h. ap Some h.0,
)
