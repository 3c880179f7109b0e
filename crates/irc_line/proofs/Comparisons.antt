-- How bytes are compared with a list in parts.
use Rattle.std.proofs.Common.{◌≡◌, ◌≢◌, ℕ, Bool, true, false, ◌&&◌, List, [], ◌∷◌, ◌++◌, refl, ap, sym, ◌∙◌}
use Rattle.std.specs.Prelude.{◌==◌, if◌then◌else◌, Option, Some, None, option_map, MatchOption}
use Rattle.std.proofs.Common.{Bor}
use Rattle.irc_line.specs.Names.{same_bytes}
use Rattle.irc_line.specs.Lines.{Parts, spelled_prefix, spelled_parameters, spelling}
use Rattle.irc_line.specs.Comparing.{behind}
use Rattle.irc_line.proofs.Numbers.{eq_of, of_eq}

front_some_by : (a b s t : List ℕ) (v : Bool) → (if v then behind a s else None) ≡ Some t → (behind a s ≡ Some t → behind (a ++ b) s ≡ behind b t)
    → (if v then behind (a ++ b) s else None) ≡ behind b t
front_some_by a b s t true e ih = ih e
front_some_by a b s t false e ih = cc

-- what follows two fronts, if the bytes begin with the first
pub front_some : (a b s t : List ℕ) → behind a s ≡ Some t → behind (a ++ b) s ≡ behind b t
front_some [] b s t e = let same : s ≡ t = cc in ap (behind b) same
front_some (x ∷ a) b [] t e = cc
front_some (x ∷ a) b (y ∷ s) t e = front_some_by a b s t (x == y) e (front_some a b s t)

front_none_by : (a b s : List ℕ) (v : Bool) → (if v then behind a s else None) ≡ None → (behind a s ≡ None → behind (a ++ b) s ≡ None) → (if v then behind (a ++ b) s else None) ≡ None
front_none_by a b s true e ih = ih e
front_none_by a b s false e ih = refl

-- and where they do not
pub front_none : (a b s : List ℕ) → behind a s ≡ None → behind (a ++ b) s ≡ None
front_none [] b s e = cc
front_none (x ∷ a) b [] e = refl
front_none (x ∷ a) b (y ∷ s) e = front_none_by a b s (x == y) e (front_none a b s)

same_some_by : (a b s t : List ℕ) (v : Bool) → (if v then behind a s else None) ≡ Some t → (behind a s ≡ Some t → same_bytes (a ++ b) s ≡ same_bytes b t)
    → (v && same_bytes (a ++ b) s) ≡ same_bytes b t
same_some_by a b s t true e ih = ih e
same_some_by a b s t false e ih = cc

-- bytes are equal to two parts in a row where they begin with the first and the second follows it
pub same_some : (a b s t : List ℕ) → behind a s ≡ Some t → same_bytes (a ++ b) s ≡ same_bytes b t
same_some [] b s t e = let same : s ≡ t = cc in ap (same_bytes b) same
same_some (x ∷ a) b [] t e = cc
same_some (x ∷ a) b (y ∷ s) t e = same_some_by a b s t (x == y) e (same_some a b s t)

same_none_by : (a b s : List ℕ) (v : Bool) → (if v then behind a s else None) ≡ None → (behind a s ≡ None → same_bytes (a ++ b) s ≡ false) → (v && same_bytes (a ++ b) s) ≡ false
same_none_by a b s true e ih = ih e
same_none_by a b s false e ih = refl

pub same_none : (a b s : List ℕ) → behind a s ≡ None → same_bytes (a ++ b) s ≡ false
same_none [] b s e = cc
same_none (x ∷ a) b [] e = refl
same_none (x ∷ a) b (y ∷ s) e = same_none_by a b s (x == y) e (same_none a b s)

behind_whole : (a t : List ℕ) → behind a (a ++ t) ≡ Some t
behind_whole [] t = refl
behind_whole (x ∷ a) t = rw (of_eq x x refl) (behind_whole a t)

behind_is_by : (x y : ℕ) (a s t : List ℕ) (v : Bool) → (x == y) ≡ v → (if v then behind a s else None) ≡ Some t → (behind a s ≡ Some t → s ≡ a ++ t) → y ∷ s ≡ x ∷ (a ++ t)
behind_is_by x y a s t true e h ih = rw (eq_of x y e) (ap (λ r. y ∷ r) (ih h))
behind_is_by x y a s t false e h ih = cc

behind_is : (a s t : List ℕ) → behind a s ≡ Some t → s ≡ a ++ t
behind_is [] s t e = cc
behind_is (x ∷ a) [] t e = cc
behind_is (x ∷ a) (y ∷ s) t e = behind_is_by x y a s t (x == y) refl e (behind_is a s t)

absent_by : (a s : List ℕ) (o : Option (List ℕ)) → behind a s ≡ o → ((rest : List ℕ) → s ≢ a ++ rest) → None ≡ o
absent_by a s None e h = refl
absent_by a s (Some t) e h = absurd (h t (behind_is a s t e))

pub stripped : (a s : List ℕ) (r : Option (Bor (List ℕ))) → MatchOption r ((rest : List ℕ) → s ≢ a ++ rest) (λ x. s ≡ a ++ x.now) → option_map (λ x. x.now) r ≡ behind a s
stripped a s None h = absent_by a s (behind a s) refl h
stripped a s (Some x) h = rw h (let back = behind_whole a x.now in rw back refl)

-- A canonical spelling

pub prefix_absent : (p : Parts) (s : List ℕ) → None ≡ behind (spelled_prefix p.prefix) s → false ≡ same_bytes (spelling p) s
unfolding spelling
prefix_absent p s e =
    let front = spelled_prefix p.prefix in
    sym (same_none (front ++ p.command) (spelled_parameters p.command p.parameters) s (front_none front p.command s (sym e)))

pub command_absent : (p : Parts) (s t : List ℕ) → Some t ≡ behind (spelled_prefix p.prefix) s → None ≡ behind p.command t → false ≡ same_bytes (spelling p) s
unfolding spelling
command_absent p s t e f =
    let front = spelled_prefix p.prefix in
    sym (same_none (front ++ p.command) (spelled_parameters p.command p.parameters) s (front_some front p.command s t (sym e) ∙ sym f))

pub parameters_compared : (p : Parts) (s t u : List ℕ) → Some t ≡ behind (spelled_prefix p.prefix) s → Some u ≡ behind p.command t
    → same_bytes (spelled_parameters p.command p.parameters) u ≡ same_bytes (spelling p) s
unfolding spelling
parameters_compared p s t u e f =
    let front = spelled_prefix p.prefix in
    sym (same_some (front ++ p.command) (spelled_parameters p.command p.parameters) s u (front_some front p.command s t (sym e) ∙ sym f))
