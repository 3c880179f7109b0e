-- Bodies as bytes, layer by layer.
use Rattle.std.specs.Prelude.{ℕ, List}
use Rattle.wire_bytes.specs.Contents.{spelled_line, FitsLine}
use Rattle.buffer_commands.specs.Spellings.{spelled_action, spelled_command, FitsAction, FitsCommand}
use Rattle.session_fence.specs.Spelling as fence
use Rattle.upstream_claim.specs.Spelling as claims
use Rattle.request_once.specs.Spelling as requests
use Rattle.bouncer_tower.specs.Bodies.{Sessioned, Claimed, TowerBody}

-- a command of the sessions as bytes
abbrev pub spelled_sessioned : Sessioned → List ℕ
spelled_sessioned = fence.spelled_command spelled_command spelled_line

-- a command of the claims as bytes
abbrev pub spelled_claimed : Claimed → List ℕ
spelled_claimed = claims.spelled_command spelled_sessioned

-- a body as bytes
abbrev pub spelled_body : TowerBody → List ℕ
spelled_body = requests.spelled_body spelled_claimed spelled_action

-- Each value is within its limits

-- a command of the sessions whose values are within their limits
abbrev pub FitsSessioned : Sessioned → Type 0
FitsSessioned = fence.FitsCommand FitsCommand FitsLine

-- a command of the claims whose values are within their limits
abbrev pub FitsClaimed : Claimed → Type 0
FitsClaimed = claims.FitsCommand FitsSessioned

-- a body whose values are within their limits
abbrev pub FitsBody : TowerBody → Type 0
FitsBody = requests.FitsBody FitsClaimed FitsAction
