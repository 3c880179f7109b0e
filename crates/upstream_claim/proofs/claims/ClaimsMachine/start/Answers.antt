use Rattle.std.proofs.Common.{refl}
use Rattle.upstream_claim.specs.Numbered.{plain, numbered}
use Rattle.upstream_claim.proofs.Waiting.{nothing_kept}
use Rattle.upstream_claim.proofs.claims.ClaimsMachine.start.Goals as goal

pub returns : goal.returns
unfolding plain numbered
returns g c = (c.in_ok-start.ensures, rw (c.new.ensures.count, c.new.ensures.lines) nothing_kept, refl)
