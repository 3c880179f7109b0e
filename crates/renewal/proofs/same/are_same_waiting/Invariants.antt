use Rattle.std.proofs.Common.{◌≡◌, take}
use Rattle.renewal.proofs.same.are_same_waiting.Given as goal

abbrev pub invariant-loop-place : goal.invariant-loop-place
invariant-loop-place l = take l.place l.b.items ≡ take l.place l.a.items
