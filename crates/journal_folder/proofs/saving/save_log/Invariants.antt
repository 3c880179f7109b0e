use Rattle.std.proofs.Common.{◌≡◌, ◌*◌, take}
use Rattle.raft_log.specs.Batches.{batch_limit}
use Rattle.stable_store.specs.Stores.{IsHonest, Serves}
use Rattle.journal_folder.specs.Saving.{begun_anew}
use Rattle.journal_folder.proofs.saving.save_log.Given as goal

-- this many blocks are saved
abbrev pub invariant-loop-block : goal.invariant-loop-block
invariant-loop-block g l = record {
  honest : (g.S.Stable.condition l.store).honest ≡ (g.S.Stable.condition l.fn.store).honest;
  saved : IsHonest (g.S.Stable.condition l.fn.store) → Serves (g.S.Stable.condition l.store) × (g.S.Stable.saved l.store ≡ begun_anew l.boot l.term (take (l.block * batch_limit) l.log));
}
