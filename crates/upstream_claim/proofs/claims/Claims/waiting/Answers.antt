use Rattle.upstream_claim.specs.Numbered.{claimed, outgoing, waiting}
use Rattle.upstream_claim.proofs.claims.Claims.waiting.Goals as goal

pub returns : goal.returns
unfolding claimed outgoing waiting
returns g c = λ s earlier h. h.1.waiting
