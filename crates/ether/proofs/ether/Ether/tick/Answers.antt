use Rattle.std.proofs.Common.{refl, arith}
use Rattle.ether.proofs.ether.Ether.tick.Goals as goal

pub returns-then-pass-ge-MOST_TICKS-clause-spent : goal.returns-then-pass-ge-MOST_TICKS-clause-spent
returns-then-pass-ge-MOST_TICKS-clause-spent g c =
    let is = c.requires.pass.0 in
    let n = is.ticks in
    let few = is.few in
    let many = c.if-pass-ge-MOST_TICKS.true in
    (refl, refl, omega arith)
