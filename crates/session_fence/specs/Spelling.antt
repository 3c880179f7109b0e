-- Commands as bytes: a kind byte, 0 for a command of the machine below, 1 for a session that is opened, 2 for one that
-- is shut, 3 for a line of a session, followed by its fields.
use Rattle.std.specs.Prelude.{ℕ, List, [], ◌∷◌, ◌++◌}
use Rattle.wire_bytes.specs.Fields.{Reading, through, both, choice}
use Rattle.wire_bytes.specs.Wants.{Wants, wants_behind, wants_choice}
use Rattle.wire_bytes.specs.Values.{spelled_session, spelled_number, FitsSession, FitsNumber, FitsMoment, session, number, moment}
use Rattle.wire_bytes.specs.declared.session_id.SessionId.{SessionId}
use Rattle.session_fence.specs.declared.command.FenceCommand.{FenceCommand}
use Rattle.session_fence.specs.declared.command.FenceCommand.TheVariants.{Inner, Opened, Shut, Heard}

-- a line of a session: the session, its number in it, its moment and the line itself
abbrev pub spelled_heard : {L : Type 0} → (L → List ℕ) → SessionId → ℕ → ℕ → L → List ℕ
spelled_heard line id n at l = ((spelled_session id ++ spelled_number n) ++ spelled_number at) ++ line l

-- a line of a session needs memory only for the line itself
abbrev pub heard_wants : Wants → Wants
heard_wants line = wants_behind (both (both session number) moment) line

-- which inputs may need memory: a command of the machine below and the line of a session
abbrev pub command_wants : Wants → Wants → Wants
command_wants command line = wants_choice ((0, command) ∷ (3, heard_wants line) ∷ [])

module _ {C L : Type 0} where
  -- the kind byte
  abbrev pub command_kind : FenceCommand C L → ℕ
  command_kind (Inner c) = 0
  command_kind (Opened id) = 1
  command_kind (Shut id) = 2
  command_kind (Heard id n at l) = 3

  -- what follows the kind byte
  abbrev pub spelled_parts : (C → List ℕ) → (L → List ℕ) → FenceCommand C L → List ℕ
  spelled_parts command line (Inner c) = command c
  spelled_parts command line (Opened id) = spelled_session id
  spelled_parts command line (Shut id) = spelled_session id
  spelled_parts command line (Heard id n at l) = spelled_heard line id n at l

  -- a command as bytes
  abbrev pub spelled_command : (C → List ℕ) → (L → List ℕ) → FenceCommand C L → List ℕ
  spelled_command command line x = command_kind x ∷ spelled_parts command line x

  -- each of its values is within its limits
  abbrev pub FitsCommand : (C → Type 0) → (L → Type 0) → FenceCommand C L → Type 0
  FitsCommand command line (Inner c) = command c
  FitsCommand command line (Opened id) = FitsSession id
  FitsCommand command line (Shut id) = FitsSession id
  FitsCommand command line (Heard id n at l) = ((FitsSession id × FitsNumber n) × FitsMoment at) × line l

  -- a command below, after the kind byte
  abbrev pub inner_taken : Reading C → Reading (FenceCommand C L)
  inner_taken command = through Inner command

  -- the opening of a session
  abbrev pub opened_taken : Reading (FenceCommand C L)
  opened_taken = through Opened session

  -- the shutting of one
  abbrev pub shut_taken : Reading (FenceCommand C L)
  shut_taken = through Shut session

  -- a line of a session, from its parts as they are read
  abbrev pub heard_of : ((SessionId × ℕ) × ℕ) × L → FenceCommand C L
  heard_of p = Heard p.0.0.0 p.0.0.1 p.0.1 p.1

  -- a line of a session
  abbrev pub heard_taken : Reading L → Reading (FenceCommand C L)
  heard_taken line = through heard_of (both (both (both session number) moment) line)

  -- the command at the front of an input
  abbrev pub command_taken : Reading C → Reading L → Reading (FenceCommand C L)
  command_taken command line = choice ((0, inner_taken command) ∷ (1, opened_taken) ∷ (2, shut_taken) ∷ (3, heard_taken line) ∷ [])
