-- A PASS that is cut at its `@` and `:`.
use Rattle.std.proofs.Common.{◌≡◌, ℕ, true, not, List, [], ◌∷◌, ◌++◌, refl, ap, ◌∙◌, arith}
use Rattle.std.specs.Prelude.{◌==◌, MatchOption, Option, Some, None}
use Rattle.std.proofs.lemmas.Bool.Decides.{nat_tests}
use Rattle.irc_line.proofs.Booleans.{and_left, and_right, not_true}
use Rattle.client_gate.specs.Cuts.{HasNone, IsCutAt}
use Rattle.client_gate.specs.Registering.{first_cut}

pub cut_none : (x : ℕ) (s : List ℕ) → HasNone x s → first_cut x s ≡ None
cut_none x [] h = refl
cut_none x (b ∷ s) h = rw (not_true (b == x) (and_left (not (b == x)) _ h), cut_none x s (and_right (not (b == x)) _ h)) refl

itself : (x : ℕ) → (x == x) ≡ true
itself x = grind (arith, nat_tests)

cut_one : (x : ℕ) (piece rest : List ℕ) → HasNone x piece → first_cut x (piece ++ x ∷ rest) ≡ Some (piece, rest)
cut_one x [] rest h = rw (itself x) refl
cut_one x (b ∷ s) rest h = rw (not_true (b == x) (and_left (not (b == x)) _ h), cut_one x s rest (and_right (not (b == x)) _ h)) refl

pub cut_at : (x : ℕ) (s piece behind : List ℕ) → IsCutAt x s piece behind → first_cut x s ≡ Some (piece, behind)
cut_at x s piece behind h = ap (first_cut x) h.1 ∙ cut_one x piece behind h.0

-- weaker conditions for both cases
pub match_weaker : {A : Type 0} (r : Option A) (P R : Type 0) (Q S : A → Type 0) → (P → R) → ((a : A) → Q a → S a) → MatchOption r P Q → MatchOption r R S
match_weaker None P R Q S f g h = f h
match_weaker (Some a) P R Q S f g h = g a h
