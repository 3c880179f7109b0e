use Rattle.std.proofs.Common.{◌≡◌, ◌≤◌, ◌*◌, Bool, IsTrue, List, length, sym, subst, ◌∙◌, arith}
use Rattle.raft_log.specs.declared.entry.Entry.{Entry}
use Rattle.raft_log.specs.Batches.{batch_limit}
use Rattle.journal_folder.proofs.Blocks.{few, follows, next_saved}
use Rattle.journal_folder.proofs.saving.save_log.Goals as goal

pub save_more-requires-in-loop-block-clause-few : goal.save_more-requires-in-loop-block-clause-few
save_more-requires-in-loop-block-clause-few g c =
    subst (λ (es : List (Entry g.row.B.Denot)). length es ≤ batch_limit) (sym c.in_ok-entries.ensures) (few batch_limit c.new-kept.result c.args.log.now)

pub save_more-requires-in-loop-block-clause-follows :
    goal.save_more-requires-in-loop-block-clause-follows
save_more-requires-in-loop-block-clause-follows g c serves =
    let honest = subst (λ (b : Bool). IsTrue b) c.loop-block.invariant.honest serves.0 in
    let at : c.new-kept.result ≡ c.loop-block.block * batch_limit = c.new-kept.ensures in
    let within : c.new-kept.result ≤ length c.args.log.now = omega (arith, c.loop-block-test.true, c.value.ensures.value, c.len.ensures.value, at) in
    follows c.args.boot c.args.term c.loop-block.block c.new-kept.result c.args.log.now c.in_ok-entries.entries.items (g.S.Stable.saved c.loop-block.store)
    at within c.len.ensures.limit (c.loop-block.invariant.saved honest).1 c.in_ok-entries.ensures

pub loop-block-preserved : goal.loop-block-preserved
loop-block-preserved g c = record {
  honest = c.save_more-in-loop-block.ensures.honest ∙ c.loop-block.invariant.honest;
  saved = λ honest.
      let so_far = c.loop-block.invariant.saved honest in (
        c.in_ok-save_more-2.ensures.serves so_far.0.0,
        next_saved c.args.boot c.args.term c.loop-block.block c.new-kept.result c.args.log.now c.in_ok-entries.entries.items (g.S.Stable.saved c.loop-block.store) (g.S.Stable.saved c.save_more-in-loop-block.new.store)
            c.new-kept.ensures so_far.1 c.in_ok-entries.ensures (c.in_ok-save_more-2.ensures.saved so_far.0),
      );
}
