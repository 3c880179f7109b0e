-- One step, for one channel and for one query: what the machine does to it gives what is held of it next.
use Rattle.std.proofs.Common.{◌≡◌, ℕ, suc, ◌-◌, ◌≤◌, List, [], ◌∷◌, ◌++◌, map, length, refl, ap, sym, ◌∙◌, Bool, true, false}
use Rattle.std.specs.Prelude.{Option, Some, None, if◌then◌else◌}
use Rattle.circular_buffer.specs.Buffer.{keep_last}
use Rattle.irc_line.specs.Lines.{Parts}
use Rattle.buffer_lines.specs.Stamps.{ring}
use Rattle.buffer_targets.specs.Targets.{TargetLines, target, cleared, counted, fewer, none_seen, resized, pushed}
use Rattle.buffer_machine.proofs.Kept.{next, next-quiet}
use Rattle.std.proofs.lemmas.List.{append-nil}
use Rattle.buffer_lines.proofs.Keeping.{keep_last-nil}
use Rattle.buffer_machine.proofs.SeenLists.{pushed_length}

module _ (c : List ℕ) (ks : List (ℕ × Parts)) (n : ℕ) (fits : length ks ≤ n) (was new : List ℕ) where
  -- after one more command, by the size, whether it is emptied, what is stored, and how much each name has seen then
  abbrev pub later : ℕ → Bool → Option (ℕ × Parts) → TargetLines
  later m e o = target c (ring (next m ks e o) m) new

  pub quiet : (e : Bool) → e ≡ false → (if e then none_seen else was) ≡ new → target c (ring ks n) was ≡ later n e None
  quiet true h q = absurd cc
  quiet false h q = ap (λ k. target c (ring k n) was) (sym (next-quiet n ks fits)) ∙ ap (target c (ring (next n ks false None) n)) q

  pub empty : (rest : List ℕ) (e : Bool) → e ≡ true → (if e then none_seen else rest) ≡ new → cleared (target c (ring ks n) was) ≡ later n e None
  empty rest true h q = ap (λ k. target c (ring k n) none_seen) (sym (keep_last-nil n)) ∙ ap (target c (ring (next n ks true None) n)) q
  empty rest false h q = absurd cc

  pub sized : (m : ℕ) (e : Bool) → e ≡ false → fewer (length ks - m) was ≡ new → resized m (target c (ring ks n) was) ≡ later m e None
  sized m true h q = absurd cc
  sized m false h q = ap (λ k. target c (ring (keep_last m k) m) (fewer (length ks - m) was)) (sym (append-nil ks)) ∙ ap (target c (ring (next m ks false None) m)) q

  pub pushed_if : (b : Bool) (line : ℕ × Parts) (here : List Bool) (e : Bool) → e ≡ false → (if b then counted (pushed_length n ks line) (suc (length ks) - pushed_length n ks line) here was else was) ≡ new
      → (if b then pushed line here (target c (ring ks n) was) else target c (ring ks n) was) ≡ later n e (if b then Some line else None)
  pushed_if b line here true h q = absurd cc
  pushed_if true line here false h q = ap (target c (ring (keep_last n (ks ++ line ∷ [])) n)) q
  pushed_if false line here false h q = quiet false refl q

pub map_id : {A : Type 0} (xs : List A) → map (λ x. x) xs ≡ xs
map_id [] = refl
map_id (x ∷ xs) = ap (λ ys. x ∷ ys) (map_id xs)

-- a map under a test
pub if_map : {A : Type 0} (b : Bool) (f : A → A) (xs : List A) → (if b then map f xs else xs) ≡ map (λ x. if b then f x else x) xs
if_map true f xs = refl
if_map false f xs = sym (map_id xs)
