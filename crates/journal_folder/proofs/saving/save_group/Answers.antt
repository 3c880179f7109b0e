use Rattle.std.proofs.Common.{◌<◌, length, ◌∙◌, arith}
use Rattle.std.proofs.lemmas.List.{length-set}
use Rattle.stable_store.specs.Stores.{IsHonest}
use Rattle.journal_folder.proofs.GroupSaved.{next_saved, rest_behind}
use Rattle.journal_folder.proofs.saving.save_group.Goals as goal

pub loop-index-preserved : goal.loop-index-preserved
loop-index-preserved g c =
    let stores = c.loop-index.stores in
    let i = c.loop-index.index in
    let olds = c.args.stores.now in
    let new = c.save_log.new.store in
    let in_stores : i < length stores = omega (arith, c.loop-index-test.true, c.loop-index.invariant.count, c.requires) in
    let in_olds : i < length olds = omega (arith, in_stores, c.loop-index.invariant.count) in
    record {
      count = length-set stores i new ∙ c.loop-index.invariant.count;
      rest = rest_behind stores olds i new in_stores in_olds c.loop-index.invariant.rest;
      saved = λ all. next_saved (λ store. g.S.Stable.saved store) (λ store. IsHonest (g.S.Stable.condition store)) stores olds c.index-stores-index.result new c.args.boots.now
          c.index-boots-index.result c.args.term i c.args.log.now in_stores in_olds c.loop-index-test.true c.index-boots-index.is c.loop-index.invariant.rest
          c.in-Ok.ensures.saved (c.loop-index.invariant.saved all) all;
    }
