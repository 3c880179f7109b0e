-- Lines for upstream that are numbered, and claimed once each. A history has each command with its place, the newest
-- first.
use Rattle.std.specs.Prelude.{ℕ, ◌+◌, ◌-◌, Bool, ◌&&◌, if◌then◌else◌, ◌==◌, nat_lt, nat_le, List, [], ◌∷◌, ◌++◌, length, take, drop, Option, Some, None, slice_get}
use Rattle.irc_line.specs.Lines.{Parts}
use Rattle.machine_laws.specs.Runs.{History}
use Rattle.machine_laws.specs.Sessions.{is_that}
use Rattle.wire_bytes.specs.declared.origin.Origin.{Origin}
use Rattle.wire_bytes.specs.declared.session_id.SessionId.{SessionId}
use Rattle.upstream_claim.specs.declared.command.ClaimsCommand.{ClaimsCommand}
use Rattle.upstream_claim.specs.declared.command.ClaimsCommand.TheVariants.{Inner, Claim}
use Rattle.upstream_claim.specs.declared.effect.ClaimsEffect.{ClaimsEffect}
use Rattle.upstream_claim.specs.declared.effect.ClaimsEffect.TheVariants as effect
use Rattle.upstream_claim.specs.declared.unclaimed.TheConstants.{MOST_LINES}

-- the lines that were numbered, the one of number 1 first, and the claims that took effect, in order
pub record Numbered : Type 0 where
  pub outgoing : List Parts
  pub claimed : List (ℕ × SessionId)

-- how many lines may wait to be claimed
abbrev pub waiting_limit : ℕ
waiting_limit = MOST_LINES

-- how many more lines may be numbered
abbrev pub room : Numbered → ℕ
room q = waiting_limit - (length q.outgoing - length q.claimed)

-- this is the number of the next line to be claimed: one more than there are claims, and numbered
abbrev pub is_next : Numbered → ℕ → Bool
is_next q n = n == length q.claimed + 1 && nat_le n (length q.outgoing)

-- a claim takes effect where its session is in force and its line is the next to be claimed
abbrev pub is_taken : Option SessionId → Numbered → SessionId → ℕ → Bool
is_taken now q id n = is_that now id && is_next q n

-- a claim is added
abbrev pub with_claim : Numbered → SessionId → ℕ → Numbered
with_claim q id n = record { outgoing = q.outgoing; claimed = q.claimed ++ (n, id) ∷ [] }

-- a session hands out the line of a number
abbrev pub handed : {E : Type 0} → SessionId → ℕ → Option Parts → List (ClaimsEffect E)
handed id n None = []
handed id n (Some line) = effect.Hand id n line ∷ []

-- the line that is sent, if one is
abbrev pub line_of : Option (Origin × Parts) → List Parts
line_of None = []
line_of (Some p) = p.1 ∷ []

-- a line that is sent is numbered while there is room; else its client gets Busy
abbrev pub answer : {E : Type 0} → ℕ → E → Option (Origin × Parts) → List (ClaimsEffect E)
answer space e None = effect.Inner e ∷ []
answer space e (Some p) = if nat_lt 0 space then [] else effect.Busy p.0 ∷ []

-- the room after an effect
abbrev pub room_left : ℕ → Option (Origin × Parts) → ℕ
room_left space None = space
room_left space (Some p) = space - 1

module _ {E : Type 0} (sends : E → Option (Origin × Parts)) where
  -- the lines that effects send, in order
  abbrev pub lines_of : List E → List Parts
  lines_of [] = []
  lines_of (e ∷ es) = line_of (sends e) ++ lines_of es

  -- what the effects of the machine below become
  abbrev pub answered : ℕ → List E → List (ClaimsEffect E)
  answered space [] = []
  answered space (e ∷ es) = answer space e (sends e) ++ answered (room_left space (sends e)) es

-- a command of the machine below at its place; a claim adds none
abbrev pub with_command : {C : Type 0} → ℕ → ClaimsCommand C → History C → History C
with_command place (Inner c) below = (place, c) ∷ below
with_command place (Claim id n) below = below

-- the commands of the machine below, each at its place
unfoldable pub plain : {C : Type 0} → History (ClaimsCommand C) → History C
plain [] = []
plain (x ∷ earlier) = with_command x.0 x.1 (plain earlier)

module _ {C E : Type 0} (session : History C → Option SessionId) (sends : E → Option (Origin × Parts)) (effects : History C → ℕ → C → List E) where
  -- what is numbered and claimed after a command
  abbrev pub numbered_after : Numbered → History C → ℕ → ClaimsCommand C → Numbered
  numbered_after q below place (Inner c) = record { outgoing = q.outgoing ++ take (room q) (lines_of sends (effects below place c)); claimed = q.claimed }
  numbered_after q below place (Claim id n) = if is_taken (session below) q id n then with_claim q id n else q

  -- what is numbered and claimed after a history
  unfoldable pub numbered : History (ClaimsCommand C) → Numbered
  numbered [] = record { outgoing = []; claimed = [] }
  numbered (x ∷ earlier) = numbered_after (numbered earlier) (plain earlier) x.0 x.1

  -- what a command brings about, by what is numbered and claimed before it
  abbrev pub answers_by : Numbered → History C → ℕ → ClaimsCommand C → List (ClaimsEffect E)
  answers_by q below place (Inner c) = answered sends (room q) (effects below place c)
  answers_by q below place (Claim id n) = if is_taken (session below) q id n then handed id n (slice_get q.outgoing (n - 1)) else []

  -- the lines that were numbered; a line's place in this list, from 1, is its number
  unfoldable pub outgoing : History (ClaimsCommand C) → List Parts
  outgoing h = (numbered h).outgoing

  -- the claims that took effect, in order: number and session
  unfoldable pub claimed : History (ClaimsCommand C) → List (ℕ × SessionId)
  claimed h = (numbered h).claimed

  -- the lines that were numbered and not claimed, in the order in which they are to be claimed
  unfoldable pub waiting : History (ClaimsCommand C) → List Parts
  waiting h = drop (length (claimed h)) (outgoing h)

  -- what a command brings about at a place
  unfoldable pub answers : History (ClaimsCommand C) → ℕ → ClaimsCommand C → List (ClaimsEffect E)
  answers earlier place x = answers_by (numbered earlier) (plain earlier) place x

  -- the number of the next line to be claimed, where one is numbered and not claimed
  unfoldable pub next_claim : History (ClaimsCommand C) → Option ℕ
  next_claim h = if nat_lt (length (claimed h)) (length (outgoing h)) then Some (length (claimed h) + 1) else None
