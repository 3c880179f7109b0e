use Rattle.std.proofs.Common.{◌∙◌}
use Rattle.upstream_claim.specs.Numbered.{next_claim, claimed, outgoing, numbered}
use Rattle.upstream_claim.proofs.Waiting.{next-kept}
use Rattle.upstream_claim.proofs.claims.Claims.next_claim.Goals as goal

pub returns : goal.returns
unfolding next_claim claimed outgoing
returns g c = λ s earlier h. c.next.ensures ∙ next-kept _ _ (numbered g.M.HasSession.session g.M.HasSession.sends (g.M.Machine.effects s) earlier) h.1
