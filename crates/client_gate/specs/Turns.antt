-- What a call does, one deed after the other.
use Rattle.std.specs.Prelude.{◌≡◌, ◌<◌, ◌≤◌, ℕ, ◌+◌, Bool, true, false, ◌&&◌, if◌then◌else◌, nat_lt, List, [], ◌∷◌, ◌++◌, codes}
use Rattle.buffer_commands.specs.declared.command.Action.{Action}
use Rattle.buffer_commands.specs.declared.command.Action.TheVariants as action
use Rattle.client_gate.specs.declared.request.Request.{Request}
use Rattle.client_gate.specs.declared.status_word.StatusWord.{StatusWord}
use Rattle.client_gate.specs.declared.phase.Phase.{Phase}
use Rattle.client_gate.specs.declared.phase.Phase.TheVariants.{Left}
use Rattle.client_gate.specs.Replies.{status}
use Rattle.client_gate.specs.declared.turn.TheConstants.{MOST_WAITING}
use Rattle.wire_bytes.specs.Limits.{number_limit}

-- the progress of a call: the client's phase, how many requests wait, the number of the last one, and what the call
-- answers: the requests that it numbered, the bytes that it writes, the words to the bouncer that make no request, and
-- whether it closes
pub record Progress : Type 0 where
  pub phase : Phase
  pub waiting : ℕ
  pub numbered : ℕ
  pub requests : List Request
  pub reply : List ℕ
  pub words : List StatusWord
  pub close : Bool

-- one deed of a gate
pub data Deed : Type 0 where
  Ask : Action → Deed
  Leave : Deed
  Write : List ℕ → Deed
  Note : StatusWord → Deed
  Move : Phase → Deed
  Close : Deed

-- a request of this number
abbrev pub request : ℕ → Action → Request
request number a = record { number = number; action = a }

-- fewer than MOST_WAITING requests wait, and there is a number left besides the last one, which is kept for Leave
abbrev pub has_room : Progress → Bool
has_room p = nat_lt p.waiting MOST_WAITING && nat_lt (p.numbered + 1) number_limit

-- the next request, which waits from now on
abbrev pub numbered_next : Action → Progress → Progress
numbered_next a p =
    record p { waiting = p.waiting + 1; numbered = p.numbered + 1; requests = p.requests ++ request (p.numbered + 1) a ∷ [] }

-- some more bytes
abbrev pub written : List ℕ → Progress → Progress
written bytes p = record p { reply = p.reply ++ bytes }

-- words to the bouncer that make no request
abbrev pub noted : StatusWord → Progress → Progress
noted word p = record p { words = p.words ++ word ∷ [] }

-- another phase
abbrev pub moved : Phase → Progress → Progress
moved phase p = record p { phase = phase }

-- a request; if there is no room for one, an answer that says so
abbrev pub asked : List ℕ → Action → Progress → Progress
asked nick a p = if has_room p then numbered_next a p else written (status nick (codes "Too many requests waiting.")) p

-- the client's last request
abbrev pub left : Progress → Progress
left p = moved Left (numbered_next action.Leave p)

-- the connection closes
abbrev pub closed : Progress → Progress
closed p = record p { close = true }

-- a deed for a client of this nick
abbrev pub done : List ℕ → Progress → Deed → Progress
done nick p (Ask a) = asked nick a p
done nick p Leave = left p
done nick p (Write bytes) = written bytes p
done nick p (Note word) = noted word p
done nick p (Move phase) = moved phase p
done nick p Close = closed p

-- deeds, in this order
abbrev pub all_done : List ℕ → Progress → List Deed → Progress
all_done nick p [] = p
all_done nick p (deed ∷ deeds) = all_done nick (done nick p deed) deeds

-- the client's last request was numbered
abbrev pub has_left : Phase → Bool
has_left Left = true
has_left _ = false

-- how many requests a gate has room for: those that may wait, and a Leave
abbrev pub waiting_room : ℕ
waiting_room = MOST_WAITING + 1

-- the limits of a gate: MOST_WAITING requests may wait, and a Leave, with numbers up to 2^60
pub record IsWithin (phase : Phase) (waiting numbered : ℕ) : Type 0 where
  pub all : (waiting ≤ waiting_room) × (numbered ≤ number_limit)
  pub but_leave : has_left phase ≡ false → (waiting ≤ MOST_WAITING) × (numbered < number_limit)
