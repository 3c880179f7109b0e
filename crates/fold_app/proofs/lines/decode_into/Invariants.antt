use Rattle.std.proofs.Common.{◌≡◌, take}
use Rattle.fold_app.specs.Digits.{bytes_of}
use Rattle.fold_app.proofs.lines.decode_into.Given as goal

abbrev pub invariant-loop-i : goal.invariant-loop-i
invariant-loop-i l = take l.i l.bytes ≡ take l.i (bytes_of l.digits)
