-- Commands as bytes: a kind byte, 0 for a command of the machine below and 1 for a claim, followed by its fields.
use Rattle.std.specs.Prelude.{ℕ, List, [], ◌∷◌, ◌++◌}
use Rattle.wire_bytes.specs.Fields.{Reading, through, both, choice}
use Rattle.wire_bytes.specs.Wants.{Wants, wants_choice}
use Rattle.wire_bytes.specs.Values.{spelled_session, spelled_number, FitsSession, FitsNumber, session, number}
use Rattle.wire_bytes.specs.declared.session_id.SessionId.{SessionId}
use Rattle.upstream_claim.specs.declared.command.ClaimsCommand.{ClaimsCommand}
use Rattle.upstream_claim.specs.declared.command.ClaimsCommand.TheVariants.{Inner, Claim}

-- which inputs may need memory: a command of the machine below may, a claim does not
abbrev pub command_wants : Wants → Wants
command_wants command = wants_choice ((0, command) ∷ [])

module _ {C : Type 0} where
  -- the kind byte
  abbrev pub command_kind : ClaimsCommand C → ℕ
  command_kind (Inner c) = 0
  command_kind (Claim id n) = 1

  -- session, number
  abbrev pub spelled_parts : (C → List ℕ) → ClaimsCommand C → List ℕ
  spelled_parts command (Inner c) = command c
  spelled_parts command (Claim id n) = spelled_session id ++ spelled_number n

  -- a command as bytes
  abbrev pub spelled_command : (C → List ℕ) → ClaimsCommand C → List ℕ
  spelled_command command x = command_kind x ∷ spelled_parts command x

  -- each of its values is within its limits
  abbrev pub FitsCommand : (C → Type 0) → ClaimsCommand C → Type 0
  FitsCommand command (Inner c) = command c
  FitsCommand command (Claim id n) = FitsSession id × FitsNumber n

  -- a command below, after the kind byte
  abbrev pub inner_taken : Reading C → Reading (ClaimsCommand C)
  inner_taken command = through Inner command

  -- a claim, from its parts as they are read
  abbrev pub claim_of : SessionId × ℕ → ClaimsCommand C
  claim_of p = Claim p.0 p.1

  -- a claim
  abbrev pub claim_taken : Reading (ClaimsCommand C)
  claim_taken = through claim_of (both session number)

  -- the command at the front of an input
  abbrev pub command_taken : Reading C → Reading (ClaimsCommand C)
  command_taken command = choice ((0, inner_taken command) ∷ (1, claim_taken) ∷ [])
