-- How near a name is to a key.
use Rattle.std.specs.Prelude.{◌≡◌, ◌<◌, ◌≤◌, ◌*◌, ℕ, List, Option, Some, None, if◌then◌else◌, length, nat_eq, nat_lt}
use Rattle.std.specs.List.{AllByRecursion}
use Rattle.std.specs.Str.{chars}
use Rattle.strsim.specs.Edits.{levenshtein_row}
use Rattle.bouncer_config.specs.KeyTexts.{key_text}
use Rattle.bouncer_config.specs.Wrong.{all_keys}
use Rattle.bouncer_config.specs.declared.key.Key.{Key}
use Rattle.bouncer_config.specs.declared.nearest.Near.{Near}

-- how many characters must be added, removed or changed between two texts
unfoldable pub edits : List ℕ → List ℕ → ℕ
edits from to = levenshtein_row nat_eq (chars from) (chars to) (length (chars to))

-- no key among these is nearer to a name
abbrev pub NoneNearer : List ℕ → ℕ → List Key → Type 0
NoneNearer name distance keys = AllByRecursion (λ key. distance ≤ edits name (key_text key)) keys

-- a key is the nearest of these to a name
pub record IsNearest (name : List ℕ) (keys : List Key) (near : Near) : Type 0 where
  pub distance : near.distance ≡ edits name (key_text near.key)
  pub none_nearer : NoneNearer name near.distance keys

-- another key, if it is nearer than this one
abbrev pub nearer : Near → Option Near → Near
nearer near None = near
nearer near (Some other) = if nat_lt other.distance near.distance then other else near

-- a name is at most two edits from a key, fewer than half of its bytes, and no other key is nearer
pub record IsNear (name : List ℕ) (key : Key) : Type 0 where
  pub near : edits name (key_text key) ≤ 2
  pub like : edits name (key_text key) * 2 < length name
  pub none_nearer : NoneNearer name (edits name (key_text key)) all_keys
