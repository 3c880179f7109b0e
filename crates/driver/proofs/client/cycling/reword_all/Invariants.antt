use Rattle.std.proofs.Common.{◌≡◌, ◌++◌}
use Rattle.std.specs.Vec.Iter.{into_iter_items}
use Rattle.driver.specs.Cycling.{parted_all, reworded}
use Rattle.driver.proofs.client.cycling.reword_all.Given as goal

-- what was sent and what is left are all, and so it is with the channels that are parted from
abbrev pub invariant-loop-request : goal.invariant-loop-request
invariant-loop-request l =
    record {
      told : l.told.items ++ reworded l.shown l.parting (into_iter_items l.request-iterator) ≡ reworded l.shown l.initial.parting l.fn.requests.items;
      parting : parted_all l.shown l.parting (into_iter_items l.request-iterator) ≡ parted_all l.shown l.initial.parting l.fn.requests.items;
    }
