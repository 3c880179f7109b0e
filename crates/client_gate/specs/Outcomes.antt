-- What remains of a call that is over.
use Rattle.std.specs.Prelude.{◌≡◌, ◌+◌, ◌++◌, length}
use Rattle.client_gate.specs.declared.turn.Outcome.{Outcome}
use Rattle.client_gate.specs.Turns.{IsWithin, Progress}
use Rattle.client_gate.specs.Gates.{Gate}

-- the outcome is what a call has done
pub record IsOutcome (p : Progress) (o : Outcome) : Type 0 where
  pub phase : o.phase ≡ p.phase
  pub numbered : o.numbered ≡ p.numbered
  pub requests : o.requests.items ≡ p.requests
  pub reply : o.reply.items ≡ p.reply
  pub words : o.words.items ≡ p.words
  pub close : o.close ≡ p.close

-- a gate after a call with this outcome
abbrev pub kept_of : Gate → Outcome → Gate
kept_of g o = record { phase = o.phase; waiting = g.waiting ++ o.requests.items; numbered = o.numbered; closed = o.close }

-- the gate stays within its limits with what the call has done
abbrev pub HasPlace : Gate → Outcome → Type 0
HasPlace g o = IsWithin o.phase (length g.waiting + length o.requests.items) o.numbered
