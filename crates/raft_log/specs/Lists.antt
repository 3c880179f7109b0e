-- Lists whose places count from 1, and the nodes.
use Rattle.std.specs.Prelude.{ℕ, zero, suc, ◌==◌, ◌≤◌, List, [], ◌∷◌, Option, None, if◌then◌else◌, slice_get, get_or, set}

-- a node of a group
abbrev pub IsNode : ℕ → Type 0
IsNode n = (1 ≤ n) × (n ≤ 7)

module _ {A : Type 0} where
  -- the item at a place, from 1 on
  abbrev pub item : List A → ℕ → Option A
  item xs zero = None
  item xs (suc k) = slice_get xs k

  -- the item at a place, or this one if there is none
  abbrev pub item_or : List A → ℕ → A → A
  item_or xs zero d = d
  item_or xs (suc k) d = get_or xs k d

  -- the list with this item at a place, if it has that place
  abbrev pub with_item : List A → ℕ → A → List A
  with_item xs zero x = xs
  with_item xs (suc k) x = set xs k x

-- this many numbers from this one on
abbrev pub range_from : ℕ → ℕ → List ℕ
range_from a zero = []
range_from a (suc n) = a ∷ range_from (suc a) n

-- these numbers but this one
abbrev pub without : ℕ → List ℕ → List ℕ
without i [] = []
without i (j ∷ js) = if j == i then without i js else j ∷ without i js

-- the other nodes, by rising number
abbrev pub others : ℕ → ℕ → List ℕ
others size i = without i (range_from 1 size)
