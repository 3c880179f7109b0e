use Rattle.std.proofs.Common.{◌≡◌, true, take}
use Rattle.std.specs.List.{list_all}
use Rattle.driver.proofs.Marks.{no_mark}
use Rattle.driver.proofs.client.joining.upto.Given as goal

-- the byte does not occur before this place
abbrev pub invariant-loop-i : goal.invariant-loop-i
invariant-loop-i l = list_all (no_mark l.mark) (take l.i l.bytes) ≡ true
