use Rattle.std.proofs.Common.{◌≡◌, ◌++◌, List, length}
use Rattle.std.specs.Vec.Iter.{into_iter_items, into_iter_len}
use Rattle.records.specs.RunText.{AreAllOfMembers, AreRecordsOf}
use Rattle.records.proofs.text.all_of.Given as goal

-- what was converted, and what is left, give all records; if all are of members, so is what is left
abbrev pub invariant-loop-own : goal.invariant-loop-own
invariant-loop-own g l =
    let rest = into_iter_items l.own-iterator in
    record {
      done : (ss : List _) → AreRecordsOf rest ss → AreRecordsOf l.fn.records.items (l.all.items ++ ss);
      left : AreAllOfMembers l.fn.records.items → AreAllOfMembers rest;
      len : into_iter_len l.own-iterator ≡ length rest;
    }
