-- How long the spelling of a mark is.
use Rattle.std.proofs.Common.{◌≡◌, ℕ, ◌≤◌, length, arith}
use Rattle.std.proofs.lemmas.List.{length-append}
use Rattle.wire_bytes.specs.FieldCodecs.{wide64}
use Rattle.wire_bytes.specs.Values.{spelled_number, spelled_mark}
use Rattle.wire_bytes.specs.declared.mark.Mark.{Mark}

number_length : (n : ℕ) → length (spelled_number n) ≡ 8
unfolding spelled_number
number_length n = wide64.len n

pub mark_is_short : (m : Mark) → length (spelled_mark m) ≤ 65536
unfolding spelled_mark
mark_is_short m = omega (arith, length-append (spelled_number m.boot) (spelled_number m.number), number_length m.boot, number_length m.number)
