-- The toy recognizes no mark. This is a lemma, which need not be trusted.
use Rattle.std.proofs.Common.{◌≡◌, ◌↔◌, ℕ, Option, Some, None, sym, ap, ◌∙◌}
use Rattle.wire_bytes.specs.declared.mark.Mark.{Mark}
use Rattle.machine_laws.specs.Marks.{IsBodyOf}

-- a mark of this number, of run 1 of node 1
abbrev of_number : ℕ → Mark
of_number n = record { node = 1; boot = 1; number = n }

-- where all marks have one body, that body belongs to no single mark
pub constant_tells_none : {Body : Type 0} (body b : Body) (m : Mark) → (let none : Option Mark = None in none ≡ Some m) ↔ IsBodyOf (λ _. body) b m
constant_tells_none body b m = (
  λ e. absurd (cc e),
  λ h. absurd (
      let same : of_number 1 ≡ of_number 2 = h.1 (of_number 1) h.0 ∙ sym (h.1 (of_number 2) h.0) in
      let clash : 1 ≡ 2 = ap (λ (x : Mark). x.number) same in
      cc clash),
)
