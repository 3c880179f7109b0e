-- The state of a gate between calls, and what each call does to it and answers.
use Rattle.std.specs.Prelude.{ℕ, ◌+◌, Bool, true, false, ◌&&◌, if◌then◌else◌, nat_le, List, [], ◌∷◌, ◌++◌, length, Option, Some, None, codes, ⊤}
use Rattle.machine_laws.specs.Origins.{same_origin}
use Rattle.irc_line.specs.declared.item.Item.{Item}
use Rattle.buffer_commands.specs.declared.command.Action.TheVariants as action
use Rattle.buffer_commands.specs.declared.effect.Effect.{Effect}
use Rattle.buffer_commands.specs.declared.effect.Effect.TheVariants as effect
use Rattle.session_fence.specs.declared.effect.FenceEffect.{FenceEffect}
use Rattle.session_fence.specs.declared.effect.FenceEffect.TheVariants as fence
use Rattle.upstream_claim.specs.declared.effect.ClaimsEffect.{ClaimsEffect}
use Rattle.upstream_claim.specs.declared.effect.ClaimsEffect.TheVariants as claims
use Rattle.request_once.specs.declared.answer.Answer.{Answer}
use Rattle.request_once.specs.declared.answer.Answer.TheVariants as answer
use Rattle.client_gate.specs.declared.request.Request.{Request}
use Rattle.client_gate.specs.declared.settings.Settings.{Settings}
use Rattle.client_gate.specs.declared.status_word.StatusWord.{StatusWord}
use Rattle.client_gate.specs.declared.phase.Phase.{Phase}
use Rattle.client_gate.specs.declared.phase.Phase.TheVariants.{Arriving, Attached, Left}
use Rattle.client_gate.specs.Replies.{shown_cut, status}
use Rattle.client_gate.specs.Turns.{Progress, request}
use Rattle.client_gate.specs.Serving.{all_fed}

-- the client's phase, the requests that wait to be done, the number of the last request, and whether the gate is closed
pub record Gate : Type 0 where
  pub phase : Phase
  pub waiting : List Request
  pub numbered : ℕ
  pub closed : Bool

-- what a call answers: the requests that it numbered, the bytes that it writes, the words to the bouncer that make no
-- request, and whether it closes
pub record Given : Type 0 where
  pub requests : List Request
  pub reply : List ℕ
  pub words : List StatusWord
  pub close : Bool

-- a gate to which nothing came
abbrev pub fresh : Gate
fresh =
    record { phase = Arriving (record { password = None; nick = false; user = false }); waiting = []; numbered = 0; closed = false }

-- the client sent NICK and USER, but its password did not let it in: it is not attached
abbrev pub is_turned_down : Phase → Bool
is_turned_down (Arriving arrival) = arrival.nick && arrival.user
is_turned_down _ = false

-- an empty answer
abbrev pub nothing : Given
nothing = record { requests = []; reply = []; words = []; close = false }

-- Bytes from the client

-- the progress of a call at its beginning
abbrev pub begun : Gate → Progress
begun g =
    record { phase = g.phase; waiting = length g.waiting; numbered = g.numbered; requests = []; reply = []; words = []; close = false }

-- a gate after a call with this progress
abbrev pub kept : Gate → Progress → Gate
kept g p = record { phase = p.phase; waiting = g.waiting ++ p.requests; numbered = p.numbered; closed = p.close }

-- the answer of a call with this progress
abbrev pub given : Progress → Given
given p = record { requests = p.requests; reply = p.reply; words = p.words; close = p.close }

-- a gate after these items; a closed one takes none
abbrev pub after_items : Settings → Gate → List Item → Gate
after_items s g items = if g.closed then g else kept g (all_fed s (begun g) items)

-- the answer to these items
abbrev pub given_items : Settings → Gate → List Item → Given
given_items s g items = if g.closed then nothing else given (all_fed s (begun g) items)

-- Effects of requests

-- the effects that a gate gets
abbrev pub GateEffect : Type 0
GateEffect = Answer (ClaimsEffect (FenceEffect Effect))

-- an effect of the buffers
abbrev pub of_buffers : Effect → GateEffect
of_buffers e = answer.Effect (claims.Inner (fence.Inner e))

-- the requests whose number is greater than this one
abbrev pub behind_number : ℕ → List Request → List Request
behind_number n [] = []
behind_number n (r ∷ rs) = if nat_le r.number n then behind_number n rs else r ∷ rs

-- the first request's number is at most this one
abbrev pub is_first_answered : ℕ → List Request → Bool
is_first_answered n [] = false
is_first_answered n (r ∷ rs) = nat_le r.number n

-- the gate, closed
abbrev pub shut : Gate → Gate
shut g = record g { closed = true }

-- requests up to this number no longer wait
abbrev pub answered : ℕ → Gate → Gate
answered n g = record g { waiting = behind_number n g.waiting }

-- any effect but those of which a client is informed, for which memory is needed
abbrev pub WritesNothing : GateEffect → Type 0
WritesNothing (answer.Effect (claims.Inner (fence.Inner (effect.Show o shown)))) = ⊥
WritesNothing (answer.Effect (claims.Busy o)) = ⊥
WritesNothing _ = ⊤

-- a gate after an effect
abbrev pub after_effect : Settings → Gate → GateEffect → Gate
after_effect s g (answer.Effect (claims.Inner (fence.Inner (effect.Close o)))) = if same_origin s.origin o then shut g else g
after_effect s g (answer.Done o n) = if same_origin s.origin o then answered n g else g
after_effect s g (answer.Repeat o n) = if same_origin s.origin o then answered n g else g
after_effect s g _ = g

-- bytes that are written
abbrev pub given_reply : List ℕ → Given
given_reply reply = record nothing { reply = reply }

-- the answer that a line of the client did not go upstream
abbrev pub busy : Settings → Given
busy s = given_reply (status s.nick (codes "Busy, not sent."))

-- the answer to an effect
abbrev pub given_effect : Settings → GateEffect → Given
given_effect s (answer.Effect (claims.Inner (fence.Inner (effect.Show o shown)))) =
    if same_origin s.origin o then given_reply (shown_cut shown) else nothing
given_effect s (answer.Effect (claims.Inner (fence.Inner (effect.Close o)))) =
    if same_origin s.origin o then record nothing { close = true } else nothing
given_effect s (answer.Effect (claims.Busy o)) =
    if same_origin s.origin o then busy s else nothing
given_effect s _ = nothing

-- The end of the connection

-- the Leave, after this number, of a client that attached and did not leave
abbrev pub leave_of : Phase → ℕ → Option Request
leave_of Attached numbered = Some (request (numbered + 1) action.Leave)
leave_of _ numbered = None

-- the last request of a gate whose connection is gone
abbrev pub last_request : Gate → Option Request
last_request g = leave_of g.phase g.numbered

-- a gate with one more request, which is Leave
abbrev pub with_leave : Gate → Gate
with_leave g =
    record { phase = Left; waiting = g.waiting ++ request (g.numbered + 1) action.Leave ∷ []; numbered = g.numbered + 1; closed = true }

-- a gate in this phase whose connection is gone
abbrev pub ended : Phase → Gate → Gate
ended Attached g = with_leave g
ended _ g = shut g

-- a gate whose connection is gone
abbrev pub after_end : Gate → Gate
after_end g = ended g.phase g
