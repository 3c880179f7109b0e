use Rattle.std.proofs.Common.{◌≡◌, ◌+◌, length, map}
use Rattle.std.specs.Prelude.{option_map}
use Rattle.std.specs.Vec.Iter.{into_iter_items}
use Rattle.bouncer_run.specs.Opened.{run_of_group}
use Rattle.bouncer_run.proofs.Over.{Completes}
use Rattle.bouncer_run.proofs.parts.stores.Given as goal

-- a store for each journal so far
abbrev pub invariant-loop-journal : goal.invariant-loop-journal
invariant-loop-journal g l = record {
  count : length l.stores.items + length (into_iter_items l.journal-iterator) ≡ length l.fn.opened.items;
  over : Completes (λ late. late.run) (run_of_group (map (option_map (λ j. j.saved)) l.fn.opened.items)) l.fn.opened.items (into_iter_items l.journal-iterator) l.stores.items;
}
