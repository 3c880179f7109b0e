-- Lists as blocks of one size, and a last one that grows.
use Rattle.std.specs.Prelude.{◌≡◌, ◌≤◌, ℕ, List, ◌++◌, length, flat_map, All}
use Rattle.raft_log.specs.declared.block.TheConstants.{BLOCK_SIZE}

-- how many items a full block has
abbrev pub block_size : ℕ
block_size = BLOCK_SIZE

module _ {A : Type 0} where
  -- the items of the full blocks, and after them those of the last one
  abbrev pub joined : List (List A) → List A → List A
  joined full last = flat_map (λ b. b) full ++ last

  -- each full block is full, and the last one has no more items than that
  pub record AreBlocks (full : List (List A)) (last : List A) : Type 0 where
    pub are_full : All (λ b. length b ≡ block_size) full
    pub few : length last ≤ block_size
