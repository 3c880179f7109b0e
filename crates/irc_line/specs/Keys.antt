-- Names as keys, and their order. A key is a folded name: names with one key are the same target.
use Rattle.std.specs.Prelude.{ℕ, Bool, true, false, ◌&&◌, ◌||◌, ◌==◌, if◌then◌else◌, nat_lt, List, [], ◌∷◌}
use Rattle.std.specs.List.{list_any}
use Rattle.irc_line.specs.Names.{fold_name, same_bytes}

-- a name has this key
unfoldable pub at_key : List ℕ → List ℕ → Bool
at_key key name = same_bytes key (fold_name name)

-- some name has this key
abbrev pub is_in : List ℕ → List (List ℕ) → Bool
is_in key names = list_any (at_key key) names

-- one list of bytes comes before another, as words do in a dictionary
abbrev pub is_below : List ℕ → List ℕ → Bool
is_below xs [] = false
is_below [] (y ∷ ys) = true
is_below (x ∷ xs) (y ∷ ys) = nat_lt x y || (x == y && is_below xs ys)

-- this name's key comes before that of the first of these names, if there is one; if they rise, before those of all
abbrev pub is_below_all : List ℕ → List (List ℕ) → Bool
is_below_all name [] = true
is_below_all name (d ∷ ds) = is_below (fold_name name) (fold_name d)

-- each name's key comes before the next one's
abbrev pub are_rising : List (List ℕ) → Bool
are_rising [] = true
are_rising (c ∷ cs) = is_below_all c cs && are_rising cs

-- a name inserted where its key belongs among names that rise
abbrev pub put_in : List ℕ → List (List ℕ) → List (List ℕ)
put_in c [] = c ∷ []
put_in c (d ∷ ds) = if is_below (fold_name d) (fold_name c) then d ∷ put_in c ds else c ∷ d ∷ ds
