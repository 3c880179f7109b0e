use Rattle.std.proofs.Common.{refl}
use Rattle.session_fence.specs.Sessions.{plain}
use Rattle.session_fence.proofs.Kept.{nothing_kept}
use Rattle.session_fence.proofs.fence.FenceMachine.start.Goals as goal

pub returns : goal.returns
unfolding plain
returns g c = (c.in_ok-start.ensures, nothing_kept, refl)
