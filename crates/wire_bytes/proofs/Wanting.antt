-- Which inputs may need memory, by what is at their front.
use Rattle.std.proofs.Common.{◌≡◌, ℕ, Bool, true, false, List, drop, Result, Ok, Err, IsTrue, refl, sym, subst, ◌∙◌}
use Rattle.std.specs.Prelude.{◌||◌}
use Rattle.wire_bytes.specs.declared.wire_fault.WireFault.{WireFault}
use Rattle.wire_bytes.specs.Fields.{Reading, behind}
use Rattle.wire_bytes.specs.Wants.{Wants, never, wants_next, wants_behind, wants_both}
use Rattle.wire_bytes.proofs.Steps.{behind-none}

or_right : (a b : Bool) → IsTrue b → IsTrue (a || b)
or_right true b h = refl
or_right false b h = h

-- the second of two values needs it, after the first
pub second_wants : {X : Type 0} (first : Wants) (reading : Reading X) (second : Wants) (input : List ℕ) (x : X) (n : ℕ)
    → behind 0 reading input ≡ Ok (x, n) → IsTrue (second (drop n input)) → IsTrue (wants_both first reading second input)
second_wants {X} first reading second input x n read h =
    or_right (first input) (wants_next (reading input) second input)
    (subst (λ (r : Result (X × ℕ) WireFault). IsTrue (wants_next r second input)) (sym read ∙ behind-none reading input) h)

-- reading needs memory for no input
abbrev pub IsHeld : Wants → Type 0
IsHeld wants = (input : List ℕ) → IsTrue (wants input) → ⊥

pub never_held : IsHeld never
never_held input h = absurd cc

neither : {X : Type 0} (first second : Wants) (r : Result (X × ℕ) WireFault) (input : List ℕ) (a : Bool) → first input ≡ a → IsHeld first → IsHeld second → IsTrue (a || wants_next r second input) → ⊥
neither first second r input true e f g h = f input e
neither first second (Ok r) input false e f g h = g (drop r.1 input) h
neither first second (Err d) input false e f g h = absurd cc

-- two values that are held in place are held in place together
pub held_both : {X : Type 0} (first : Wants) (reading : Reading X) (second : Wants) → IsHeld first → IsHeld second → IsHeld (wants_both first reading second)
held_both first reading second f g input h = neither first second (reading input) input (first input) refl f g h

behind_by : {X : Type 0} (first : Wants) (reading : Reading X) (second : Wants) (input : List ℕ) (a : Bool) → first input ≡ a → IsHeld first → IsTrue (a || wants_next (reading input) second input) → IsTrue (wants_behind reading second input)
behind_by first reading second input true e f h = absurd (f input e)
behind_by first reading second input false e f h = h

-- after a value that is held in place
pub behind_held : {X : Type 0} (first : Wants) (reading : Reading X) (second : Wants) (input : List ℕ) → IsHeld first → IsTrue (wants_both first reading second input) → IsTrue (wants_behind reading second input)
behind_held first reading second input f h = behind_by first reading second input (first input) refl f h
