use Rattle.std.proofs.Common.{ap, arith, length, subst}
use Rattle.std.proofs.lemmas.List.{nil_from_length}
use Rattle.records.specs.RunText.{AreAllOfMembers}
use Rattle.records.proofs.RecordLists.{one_more, none_left}
use Rattle.records.proofs.text.all_of.Goals as goal

pub loop-own-preserved : goal.loop-own-preserved
loop-own-preserved g c =
    let inv = c.loop-own.invariant in
    let it = c.in-Some.ensures.steps in
    record {
      done = λ ss h. one_more c.args.records.items _ _ _ _ _ _ it.0 c.in_ok-keep.ensures c.in_ok-record.ensures.ok inv.done ss h;
      left = λ m. (subst AreAllOfMembers it.0 (inv.left m)).1;
      len = omega (arith, it.1, inv.len, ap length it.0);
    }

pub returns-clause-ok : goal.returns-clause-ok
returns-clause-ok g c =
    let inv = c.loop-own.invariant in
    none_left c.args.records.items _ _ (nil_from_length _ (omega (arith, c.in-None.ensures.steps.0, inv.len))) inv.done
