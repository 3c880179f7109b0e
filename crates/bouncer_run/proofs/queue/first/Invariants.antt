use Rattle.std.proofs.Common.{false, take}
use Rattle.std.specs.List.{All}
use Rattle.bouncer_run.specs.Turns.{MayBeRead}
use Rattle.bouncer_run.proofs.queue.first.Given as goal

-- none of those so far may be read
abbrev pub invariant-loop-index : goal.invariant-loop-index
invariant-loop-index l = All (λ token. MayBeRead l.driver token false) (take l.index l.tokens)
