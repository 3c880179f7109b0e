-- Where a key is among names.
use Rattle.std.specs.Prelude.{◌≡◌, ℕ, zero, suc, ◌<◌, ◌-◌, Bool, true, not, if◌then◌else◌, ◌&&◌, nat_lt, nat_le, filter, List, [], ◌∷◌, length, map, Result, MatchResult}
use Rattle.std.specs.List.{list_all, slice_index_or, list_any}
use Rattle.std.specs.Prelude.{◌==◌}
use Rattle.std.specs.Ordering.{nat_cmp}
use Rattle.std.specs.declared.cmp.Ordering.{Ordering}
use Rattle.std.specs.declared.cmp.Ordering.TheVariants.{Greater}
use Rattle.std.specs.Cmp.Lexicographic.{slice_cmp}
use Rattle.irc_line.specs.Keys.{at_key, is_in, is_below, are_rising}
use Rattle.irc_line.specs.Names.{fold_name}

-- the name at this place has the key
abbrev pub IsPlace : List ℕ → List (List ℕ) → ℕ → Type 0
IsPlace key [] at = ⊥
IsPlace key (n ∷ ns) zero = at_key key n ≡ true
IsPlace key (n ∷ ns) (suc at) = IsPlace key ns at

-- no name has the key; its place would be here: the names before are below it and those after are above it
abbrev pub IsGap : List ℕ → List (List ℕ) → ℕ → Type 0
IsGap key ns zero = list_all (λ n. is_below key (fold_name n)) ns ≡ true
IsGap key [] (suc at) = ⊥
IsGap key (n ∷ ns) (suc at) = (is_below (fold_name n) key ≡ true) × IsGap key ns at

-- the result of a search for a key among names: its place, or its gap
abbrev pub IsSearched : List ℕ → List (List ℕ) → Result ℕ ℕ → Type 0
IsSearched key names found = MatchResult found (IsPlace key names) (IsGap key names)

-- no two names have one key
abbrev pub are_different : List (List ℕ) → Bool
are_different [] = true
are_different (n ∷ ns) = not (is_in (fold_name n) ns) && are_different ns

-- the names at these places, in the order of the places
abbrev pub names_at : List (List ℕ) → List ℕ → List (List ℕ)
names_at names places = map (λ i. slice_index_or names i []) places

-- the places without the first ones, each lowered by their number
abbrev pub lowered : ℕ → List ℕ → List ℕ
lowered many places = map (λ i. i - many) (filter (λ i. nat_le many i) places)

-- the places of all names, in rising order of the names' keys
pub record IsIndex (names : List (List ℕ)) (places : List ℕ) : Type 0 where
  pub different : are_different names ≡ true
  pub rising : are_rising (names_at names places) ≡ true
  pub in_range : list_all (λ i. nat_lt i (length names)) places ≡ true
  pub complete : (i : ℕ) → i < length names → list_any (λ j. j == i) places ≡ true

-- how the key of the name at a place compares; above if there is no such place
abbrev pub compared_at : List (List ℕ) → List ℕ → ℕ → Ordering
compared_at names key i = if nat_lt i (length names) then slice_cmp nat_cmp (fold_name (slice_index_or names i [])) key else Greater
