use Rattle.std.proofs.Common.{arith}
use Rattle.store_setup.proofs.RoundTrip.{answered}
use Rattle.store_setup.proofs.file.read.Goals as goal

pub returns-clause-spelled : goal.returns-clause-spelled
returns-clause-spelled c = answered c.args.bytes.now c.headed.result (λ i. omega (arith, c.type_inv.bytes i)) c.headed.ensures.ok
