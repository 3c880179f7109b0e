use Rattle.std.proofs.Common.{◌≡◌, ◌++◌, map}
use Rattle.std.specs.Vec.Iter.{into_iter_items}
use Rattle.bouncer_run.proofs.parts.parts.Given as goal

-- a part for each store so far
abbrev pub invariant-loop-store : goal.invariant-loop-store
invariant-loop-store g l =
    map (λ p. p.store) l.parts.items ++ into_iter_items l.store-iterator ≡ l.fn.stores.items
