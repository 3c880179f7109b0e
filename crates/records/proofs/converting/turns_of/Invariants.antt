use Rattle.std.proofs.Common.{◌≡◌, ◌++◌, length, map}
use Rattle.std.specs.Vec.Iter.{into_iter_items, into_iter_len}
use Rattle.records.specs.Converting.{AreOfMembers, turn_of}
use Rattle.records.proofs.converting.turns_of.Given as goal

-- what was converted and what is left give all turns; if all are of members, so is what is left
abbrev pub invariant-loop-turn : goal.invariant-loop-turn
invariant-loop-turn g l =
    let rest = into_iter_items l.turn-iterator in
    record {
      done : l.all.items ++ map (turn_of l.node) rest ≡ map (turn_of l.node) l.fn.turns.items;
      left : AreOfMembers l.fn.turns.items → AreOfMembers rest;
      len : into_iter_len l.turn-iterator ≡ length rest;
    }
