-- Among keys that are measured one by one, the nearest is kept.
use Rattle.std.proofs.Common.{◌≡◌, ◌≤◌, ℕ, Bool, true, false, List, [], ◌∷◌, length, drop, Option, Some, None, MatchOption, refl, ap, sym, subst, ◌∙◌, arith, slice_index_or}
use Rattle.std.specs.Prelude.{if◌then◌else◌, nat_eq, nat_lt}
use Rattle.std.specs.Str.{chars}
use Rattle.std.proofs.lemmas.Bool.Decides.{nat_tests}
use Rattle.strsim.specs.Edits.{levenshtein_row}
use Rattle.bouncer_config.specs.KeyTexts.{key_text}
use Rattle.bouncer_config.specs.Near.{IsNearest, NoneNearer, edits, nearer}
use Rattle.bouncer_config.specs.declared.key.Key.{Key}
use Rattle.bouncer_config.specs.declared.key.Key.TheVariants.{Nick}
use Rattle.bouncer_config.specs.declared.nearest.Near.{Near}

pub measured : (name text : List ℕ) (key : Key) (distance : ℕ) → text ≡ key_text key → distance ≡ levenshtein_row nat_eq (chars name) (chars text) (length (chars text))
    → distance ≡ edits name (key_text key)
unfolding edits
measured name text key distance t d = d ∙ ap (λ (w : List ℕ). levenshtein_row nat_eq (chars name) (chars w) (length (chars w))) t

-- no key is nearer than less
weaker : (name : List ℕ) (less more : ℕ) (keys : List Key) → less ≤ more → NoneNearer name more keys → NoneNearer name less keys
weaker name less more [] l all = tt
weaker name less more (key ∷ keys) l all = (omega (arith, l, all.0), weaker name less more keys l all.1)

kept_by : (name : List ℕ) (keys : List Key) (near other : Near) (b : Bool) → nat_lt other.distance near.distance ≡ b → near.distance ≡ edits name (key_text near.key) → IsNearest name keys other
    → IsNearest name (near.key ∷ keys) (if b then other else near)
kept_by name keys near other true b d is = record { distance = is.distance; none_nearer = (grind (arith, nat_tests, b, d), is.none_nearer) }
kept_by name keys near other false b d is = record { distance = d; none_nearer = (omega (arith, d), weaker name near.distance other.distance keys (grind (arith, nat_tests, b)) is.none_nearer) }

-- the nearer one of the first key and the nearest of the others is the nearest
pub kept : (name : List ℕ) (keys : List Key) (near : Near) (other : Option Near) → 1 ≤ length keys → near.key ≡ slice_index_or keys 0 Nick → near.distance ≡ edits name (key_text near.key)
    → MatchOption other (drop 1 keys ≡ []) (IsNearest name (drop 1 keys)) → IsNearest name keys (nearer near other)
kept name [] near other l k d is = absurd (omega (arith, l))
kept name (key ∷ keys) near None l k d is =
    subst (λ first. IsNearest name (first ∷ keys) near) k (subst (λ rest. IsNearest name (near.key ∷ rest) near) (sym is) (record { distance = d; none_nearer = (omega (arith, d), tt) }))
kept name (key ∷ keys) near (Some other) l k d is =
    subst (λ first. IsNearest name (first ∷ keys) (nearer near (Some other))) k (kept_by name keys near other (nat_lt other.distance near.distance) refl d is)
