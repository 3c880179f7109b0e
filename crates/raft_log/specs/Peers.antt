-- What a node keeps about each node of its group, and the allowed sizes of a group.
use Rattle.std.specs.Prelude.{◌≡◌, ℕ, ◌-◌, ◌⊎◌, Bool, false, List, ◌++◌, length, map, drop, replicate, nat_le}
use Rattle.raft_log.specs.Votes.{majority}

-- a group has 3, 5 or 7 nodes
abbrev pub IsGroupSize : ℕ → Type 0
IsGroupSize n = (n ≡ 3) ⊎ ((n ≡ 5) ⊎ (n ≡ 7))

-- for each node, whether its vote came, the next index to send from, and the index up to which its log is known to
-- match
pub record PeerLists : Type 0 where
  pub size : ℕ
  pub voters : List Bool
  pub next : List ℕ
  pub matched : List ℕ

-- at the start: no vote came, and nothing is known of any log
abbrev pub no_peers : ℕ → PeerLists
no_peers size = record { size = size; voters = replicate size false; next = replicate size 0; matched = replicate size 0 }

-- the logs of a majority are known to match up to this index
abbrev pub majority_has : PeerLists → ℕ → Bool
majority_has p index = majority p.size (map (λ m. nat_le index m) p.matched)

-- seven items that begin with these
abbrev pub padded : {A : Type 0} → A → List A → List A
padded x xs = xs ++ replicate (7 - length xs) x

-- seven items, of which those past the size are all this one
pub record IsPadded {A : Type 0} (x : A) (size : ℕ) (xs : List A) : Type 0 where
  pub seven : length xs ≡ 7
  pub rest : drop size xs ≡ replicate (7 - size) x
