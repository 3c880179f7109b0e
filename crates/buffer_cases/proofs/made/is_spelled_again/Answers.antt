use Rattle.std.proofs.Common.{arith}
use Rattle.buffer_cases.proofs.made.is_spelled_again.Goals as goal

pub is_copied_so-requires : goal.is_copied_so-requires
is_copied_so-requires g c = (g.met.W.Wire.is_codec.one_spelling c.args.input.now c.in_ok-value.value _ (λ i. omega (arith, c.type_inv.input i)) c.in_ok-value.ensures.ok).0
