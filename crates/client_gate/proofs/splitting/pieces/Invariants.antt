use Rattle.std.proofs.Common.{◌≡◌, ◌++◌, map, length}
use Rattle.client_gate.specs.Words.{pieces}
use Rattle.client_gate.proofs.splitting.pieces.Given as goal

abbrev pub invariant-loop-piece : goal.invariant-loop-piece
invariant-loop-piece l = map (λ x. x.now) l.all.items ++ pieces l.separator l.rest ≡ pieces l.separator l.bytes

abbrev pub decreases-loop-piece : goal.decreases-loop-piece
decreases-loop-piece l = length l.rest
