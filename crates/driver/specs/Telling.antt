-- What was ordered, and how many notes each node was sent.
use Rattle.std.specs.Prelude.{ℕ, ◌+◌, ◌-◌, ◌^◌, min, List, [], ◌∷◌, ◌++◌, slice_index, slice_set}
use Rattle.driver.specs.declared.order.Order.{Order}
use Rattle.driver.specs.declared.order.Order.TheVariants.{Submit}

-- the orders that were not taken yet, and how many notes each node was sent before these, node 1's count first
pub record Ordered : Type 0 where
  pub before : List ℕ
  pub items : List Order

-- one more, as far as 64 bits count
abbrev pub one_more : ℕ → ℕ
one_more count = min (count + 1) (2 ^ 64 - 1)

-- the counts after an order: a note counts for the node that gets it, and nothing else counts
abbrev pub counted : List ℕ → Order → List ℕ
counted told (Submit node note) = slice_set told (node - 1) (one_more (slice_index told (node - 1)))
counted told order = told

-- the counts after these orders
unfoldable pub counts : List ℕ → List Order → List ℕ
counts told [] = told
counts told (order ∷ more) = counts (counted told order) more

-- how many notes a node was sent in all
unfoldable pub told_to : Ordered → ℕ → ℕ
told_to orders node = slice_index (counts orders.before orders.items) (node - 1)

-- the number of the next note that it gets
abbrev pub next_note : Ordered → ℕ → ℕ
next_note orders node = one_more (told_to orders node)

-- these are ordered too
abbrev pub ordered : Ordered → List Order → Ordered
ordered orders more = record orders { items = orders.items ++ more }

-- all that was ordered is taken, and stays counted
abbrev pub emptied : Ordered → Ordered
emptied orders = record { before = counts orders.before orders.items; items = [] }

-- nothing was ordered, and no node was sent a note
abbrev pub none_told : Ordered
none_told = record { before = 0 ∷ 0 ∷ 0 ∷ 0 ∷ 0 ∷ 0 ∷ 0 ∷ []; items = [] }
