-- What is kept about the sessions, and what it means. These are the machine's inner steps, which need not be trusted.
use Rattle.std.specs.Prelude.{◌≡◌, ℕ, ◌+◌, ◌&&◌, ◌==◌, if◌then◌else◌, List, map, Option, Some, None}
use Rattle.irc_line.specs.Lines.{Parts}
use Rattle.machine_laws.specs.Runs.{History, effects_at}
use Rattle.machine_laws.specs.Sessions.{is_that}
use Rattle.wire_bytes.specs.declared.session_id.SessionId.{SessionId}
use Rattle.session_fence.specs.declared.command.FenceCommand.{FenceCommand}
use Rattle.session_fence.specs.declared.command.FenceCommand.TheVariants.{Inner, Opened, Shut, Heard}
use Rattle.session_fence.specs.declared.effect.FenceEffect.{FenceEffect}
use Rattle.session_fence.specs.declared.session.Session.{Session}
use Rattle.session_fence.specs.declared.session.Session.TheVariants.{Never, InForce, Over}
use Rattle.session_fence.specs.Sessions.{is_new, given, labelled, greatest, session, lines_taken}

-- the greatest id that was opened
abbrev pub top_of : Session → Option SessionId
top_of Never = None
top_of (InForce id n) = Some id
top_of (Over id) = Some id

-- the session in force
abbrev pub now_of : Session → Option SessionId
now_of Never = None
now_of (InForce id n) = Some id
now_of (Over id) = None

-- how many of its lines were taken
abbrev pub taken_of : Session → ℕ
taken_of Never = 0
taken_of (InForce id n) = n
taken_of (Over id) = 0

-- what is kept after a command
abbrev pub next_of : {C L : Type 0} → Session → FenceCommand C L → Session
next_of q (Inner c) = q
next_of q (Opened id) = if is_new (top_of q) id then InForce id 0 else q
next_of q (Shut id) = if is_that (now_of q) id then Over id else q
next_of q (Heard id n at l) = if is_that (now_of q) id && n == taken_of q + 1 then InForce id n else q

module _ {C L : Type 0} (up down : C) (heard : ℕ → L → C) where
  -- the commands of the machine below that a command gives, by what is kept
  abbrev pub given_by : Session → FenceCommand C L → List C
  given_by q x = given up down heard (top_of q) (now_of q) (λ _. taken_of q) x

  -- what a command brings about at a place, by what is kept and by the effects below
  abbrev pub brought_by : {S E : Type 0} → (E → Option Parts) → (S → History C → ℕ → C → List E) → Session → ℕ → FenceCommand C L → S → History C → List (FenceEffect E)
  brought_by rejoined effects q place x s below = map (labelled rejoined x) (effects_at (effects s) place (given_by q x) below)

-- what is kept agrees with what came
pub record IsKept {C L : Type 0} (q : Session) (h : History (FenceCommand C L)) : Type 0 where
  pub top : top_of q ≡ greatest h
  pub now : now_of q ≡ session h
  pub taken : (id : SessionId) → now_of q ≡ Some id → taken_of q ≡ lines_taken h id
