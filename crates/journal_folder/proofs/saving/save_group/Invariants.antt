use Rattle.std.proofs.Common.{◌≡◌, drop, length, map, take}
use Rattle.std.specs.List.{All}
use Rattle.stable_store.specs.Stores.{IsHonest}
use Rattle.journal_folder.specs.Saving.{all_begun_anew}
use Rattle.journal_folder.proofs.saving.save_group.Given as goal

-- this many stores are saved, and the others are unchanged
abbrev pub invariant-loop-index : goal.invariant-loop-index
invariant-loop-index g l = record {
  count : length l.stores ≡ length l.fn.stores;
  rest : drop l.index l.stores ≡ drop l.index l.fn.stores;
  saved : All (λ store. IsHonest (g.S.Stable.condition store)) l.fn.stores
      → map (λ store. g.S.Stable.saved store) (take l.index l.stores) ≡ all_begun_anew (take l.index l.boots) l.term l.log;
}
