use Rattle.std.proofs.Common.{◌≡◌, take}
use Rattle.std.specs.List.{list_all}
use Rattle.fold_app.specs.Digits.{is_digit}
use Rattle.fold_app.proofs.lines.are_digits.Given as goal

abbrev pub invariant-loop-b : goal.invariant-loop-b
invariant-loop-b l = l.all ≡ list_all is_digit (take l.b-index l.line)
