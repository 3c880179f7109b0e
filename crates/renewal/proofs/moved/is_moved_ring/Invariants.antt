use Rattle.std.proofs.Common.{◌≡◌, take, drop}
use Rattle.renewal.proofs.moved.is_moved_ring.Given as goal

abbrev pub invariant-loop-place : goal.invariant-loop-place
invariant-loop-place l = take l.place l.new.lines ≡ take l.place (drop l.dropped l.old.lines)
