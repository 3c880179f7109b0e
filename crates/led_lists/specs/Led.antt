-- Lists of bodies that one leader brings. A history has each body with its place, the newest first.
use Rattle.std.specs.Prelude.{◌≡◌, ℕ, suc, ◌+◌, ◌==◌, Bool, true, false, ◌&&◌, nat_lt, if◌then◌else◌, List, [], ◌∷◌, Option, Some, None}
use Rattle.wire_bytes.specs.declared.origin.Origin.{Origin}
use Rattle.wire_bytes.specs.declared.session_id.SessionId.{SessionId}
use Rattle.machine_laws.specs.Origins.{same_origin}
use Rattle.machine_laws.specs.Runs.{History}
use Rattle.machine_laws.specs.Sessions.{same_session}
use Rattle.raft_log.specs.declared.node_state.Live.{Live}
use Rattle.buffer_commands.specs.Settings.{Settings}
use Rattle.buffer_commands.specs.declared.command.Command.{Command}
use Rattle.buffer_commands.specs.declared.command.Command.TheVariants as command
use Rattle.session_fence.specs.declared.command.FenceCommand.TheVariants as fence
use Rattle.upstream_claim.specs.declared.command.ClaimsCommand.TheVariants as claims
use Rattle.request_once.specs.declared.body.Body.TheVariants as body
use Rattle.bouncer_tower.specs.Bodies.{Claimed, Sessioned, TowerBody, next_claim}
use Rattle.led_lists.specs.declared.leading.Leading.{Leading}
use Rattle.wire_bytes.specs.Limits.{number_limit}

-- a new leader has no session, and has opened none
abbrev pub new_leader : Leading
new_leader = record { live = None; attempts = 0 }

-- no session is live
abbrev pub is_idle : Option Live → Bool
is_idle None = true
is_idle (Some live) = false

-- the live session has this id
abbrev pub is_live : Option Live → SessionId → Bool
is_live None id = false
is_live (Some live) id = same_session live.id id

-- the live session has this id, and its next line this number
abbrev pub is_next_line : Option Live → SessionId → ℕ → Bool
is_next_line None id n = false
is_next_line (Some live) id n = same_session live.id id && live.next == n

-- the next line to be claimed has this number
abbrev pub is_next_claim : Option ℕ → ℕ → Bool
is_next_claim None n = false
is_next_claim (Some number) n = number == n

-- a node may be gone at any time; the leader brings no other command of the buffers
abbrev pub may_bring_command : Command → Bool
may_bring_command (command.NodeGone node floor) = true
may_bring_command c = false

-- The leader opens the next session of its term where none is live. It shuts its live session, and hears the next line
-- in that. Numbers stay within 2^60.
abbrev pub may_bring_session : ℕ → Leading → Sessioned → Bool
may_bring_session term k (fence.Opened id) = is_idle k.live && (nat_lt k.attempts number_limit && same_session (term, suc k.attempts) id)
may_bring_session term k (fence.Shut id) = is_live k.live id
may_bring_session term k (fence.Heard id n at line) = is_next_line k.live id n && nat_lt n number_limit
may_bring_session term k (fence.Inner c) = may_bring_command c

-- the leader's live session claims the next line to be claimed, if there is one
abbrev pub may_bring_claim : ℕ → Leading → Option ℕ → Claimed → Bool
may_bring_claim term k next (claims.Claim id n) = is_live k.live id && is_next_claim next n
may_bring_claim term k next (claims.Inner c) = may_bring_session term k c

-- The leader of a term may bring this body, where this is the next line to be claimed: a command of the claims or of
-- its sessions, or a request of this client. It brings no second blank, and no mark.
abbrev pub may_bring : ℕ → Origin → Leading → Option ℕ → TowerBody → Bool
may_bring term client k next (body.Inner c) = may_bring_claim term k next c
may_bring term client k next (body.Asked o n at action) = same_origin client o
may_bring term client k next body.Blank = false
may_bring term client k next (body.Mark m) = false

-- what the leader keeps about its sessions after a command for them: the session that it opened, none after it shut
-- one, the number of the next line
abbrev pub behind_session : Leading → Sessioned → Leading
behind_session k (fence.Opened id) = record { live = Some (record { id = id; next = 1 }); attempts = suc k.attempts }
behind_session k (fence.Shut id) = record { live = None; attempts = k.attempts }
behind_session k (fence.Heard id n at line) = record { live = Some (record { id = id; next = suc n }); attempts = k.attempts }
behind_session k (fence.Inner c) = k

-- the same after a command for the claims
abbrev pub behind_claim : Leading → Claimed → Leading
behind_claim k (claims.Claim id n) = k
behind_claim k (claims.Inner c) = behind_session k c

-- the same after a body
abbrev pub behind : Leading → TowerBody → Leading
behind k (body.Inner c) = behind_claim k c
behind k (body.Asked o n at action) = k
behind k body.Blank = k
behind k (body.Mark m) = k

-- what the leader keeps after a body, if it may bring it
abbrev pub brought : ℕ → Origin → Leading → Option ℕ → TowerBody → Option Leading
brought term client k next b = if may_bring term client k next b then Some (behind k b) else None

-- A leader that keeps this may bring these bodies one after the other, the first at this place, after this history;
-- `next` gives the number of the next line to be claimed after a history
abbrev pub are_led : (History TowerBody → Option ℕ) → ℕ → Origin → Leading → ℕ → History TowerBody → List TowerBody → Bool
are_led next term client k place h [] = true
are_led next term client k place h (b ∷ later) =
    may_bring term client k (next h) b && are_led next term client (behind k b) (place + 1) ((place, b) ∷ h) later

-- what a new leader appends first
abbrev pub is_blank : TowerBody → Bool
is_blank (body.Inner c) = false
is_blank (body.Asked o n at action) = false
is_blank body.Blank = true
is_blank (body.Mark m) = false

-- one leader brings these bodies and no others: a blank, and then what it may bring
abbrev pub is_led_by : (History TowerBody → Option ℕ) → ℕ → Origin → List TowerBody → Bool
is_led_by next term client [] = false
is_led_by next term client (b ∷ later) = is_blank b && are_led next term client new_leader 2 ((1, b) ∷ []) later

-- the leader of this term brings exactly these bodies, with the requests of this client
abbrev pub is_led : Settings → ℕ → Origin → List TowerBody → Bool
is_led s term client bodies = is_led_by (next_claim s) term client bodies

-- these bodies are such a list
abbrev pub IsLed : Settings → ℕ → Origin → List TowerBody → Type 0
IsLed s term client bodies = is_led s term client bodies ≡ true
