-- A JOIN after a PART of the same channel: clients send both at once to cycle a channel.
use Rattle.std.specs.Prelude.{◌≡◌, ◌⊎◌, ◌&&◌, ℕ, Bool, true, codes, if◌then◌else◌, List, [], ◌∷◌}
use Rattle.buffer_commands.specs.declared.command.Action.{Action}
use Rattle.buffer_commands.specs.declared.command.Action.TheVariants.{Join, Part, Pass}
use Rattle.buffer_machine.specs.Messages.{bare}
use Rattle.irc_line.specs.Lines.{Parts}
use Rattle.irc_line.specs.Names.{is_name}
use Rattle.client_gate.specs.declared.request.Request.{Request}
use Rattle.client_gate.specs.Turns.{request as numbered}
use Rattle.driver.specs.Opening.{closed, has_open, opened}

-- the line by which a channel is joined
abbrev pub join_line : List ℕ → Parts
join_line channel = bare (codes "JOIN") (channel ∷ [])

-- a channel is among those that a client has open, and among those that it asked to part from
abbrev pub is_cycled : List (List ℕ) → List (List ℕ) → List ℕ → Bool
is_cycled shown parting channel = has_open channel shown && has_open channel parting

-- the channels that a client, which has these channels open, asked to part from and has not asked to join since, after
-- one more action: a Part adds one that is open, and a Join removes it
abbrev pub parted_by : List (List ℕ) → List (List ℕ) → Action → List (List ℕ)
parted_by shown parting (Part channel) = if has_open channel shown then opened channel parting else parting
parted_by shown parting (Join channel) = closed channel parting
parted_by shown parting action = parting

-- an action as it goes to the client's node: a Join of a channel that is parted from goes upstream as a line, after the
-- PART
abbrev pub turned : List (List ℕ) → List (List ℕ) → Action → Action
turned shown parting (Join channel) = if is_cycled shown parting channel then Pass (join_line channel) else Join channel
turned shown parting action = action

-- requests as they go to the client's node, each under its number
unfoldable pub reworded : List (List ℕ) → List (List ℕ) → List Request → List Request
reworded shown parting [] = []
reworded shown parting (request ∷ requests) =
    numbered request.number (turned shown parting request.action)
    ∷ reworded shown (parted_by shown parting request.action) requests

-- the channels that a client asked to part from, and has not asked to join since, after these requests
unfoldable pub parted_all : List (List ℕ) → List (List ℕ) → List Request → List (List ℕ)
parted_all shown parting [] = parting
parted_all shown parting (request ∷ requests) = parted_all shown (parted_by shown parting request.action) requests

-- an action goes as it is, or a Join goes as the line that joins the channel
abbrev pub IsToldAs : Action → Action → Type 0
IsToldAs (Join channel) told = (told ≡ Join channel) ⊎ (told ≡ Pass (join_line channel))
IsToldAs action told = told ≡ action

-- requests go in their order, each under its number, and none is changed but a Join
unfoldable pub AreToldAs : List Request → List Request → Type 0
AreToldAs [] [] = Unit {0}
AreToldAs (request ∷ requests) (other ∷ others) =
    (other.number ≡ request.number) × IsToldAs request.action other.action × AreToldAs requests others
AreToldAs requests others = ⊥

-- Whatever channels a client has open, and asked to part from: its requests go in their order, each under its number,
-- and none is changed but a Join, which may go as the line that joins the channel.
abbrev pub OnlyJoinsAreReworded : Type 0
OnlyJoinsAreReworded = (shown parting : List (List ℕ)) (requests : List Request) → AreToldAs requests (reworded shown parting requests)

-- Whatever a client asked before: if it has a channel open, parts from it and joins it right after that, the JOIN goes
-- as a line.
abbrev pub CyclesGoAsLines : Type 0
CyclesGoAsLines =
    (shown parting : List (List ℕ)) (channel : List ℕ) (first second : ℕ) → is_name channel ≡ true → has_open channel shown ≡ true
    → reworded shown parting (numbered first (Part channel) ∷ numbered second (Join channel) ∷ [])
    ≡ numbered first (Part channel) ∷ numbered second (Pass (join_line channel)) ∷ []
