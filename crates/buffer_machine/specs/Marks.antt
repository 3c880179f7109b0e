-- What each name has seen of each target, and what is played to it. Names are those that clients give when they attach.
use Rattle.std.specs.Prelude.{ℕ, suc, Bool, false, not, ◌&&◌, ◌||◌, if◌then◌else◌, nat_lt, List, [], ◌∷◌, length, map, filter, Option, Some, None, option_map}
use Rattle.irc_line.specs.Names.{is_channel}
use Rattle.irc_line.specs.Lines.{Parts}
use Rattle.buffer_lines.specs.Keeping.{kept as kept_lines}
use Rattle.buffer_lines.specs.Stamps.{framed}
use Rattle.wire_bytes.specs.declared.origin.Origin.{Origin}
use Rattle.buffer_commands.specs.Settings.{Settings}
use Rattle.buffer_commands.specs.declared.command.Action.TheVariants.{Attach, Join, Reattach, Play}
use Rattle.buffer_commands.specs.declared.command.Command.{Command}
use Rattle.buffer_commands.specs.declared.command.Command.TheVariants.{Client}
use Rattle.buffer_machine.specs.Crowd.{attached, takes, is_id, id_of, holds}
use Rattle.buffer_machine.specs.Buffers.{detached, emptied, is_known, made_as, playback, plays, size, stored}

-- whether what a command plays is shown to a client of this name, by whether one is attached: to the client that
-- attaches or asks, and to all if a channel is attached again
abbrev pub is_shown_to : List ℕ → Bool → (Origin → Option (List ℕ)) → Command → Bool
is_shown_to id here ids_of (Client o at (Attach given)) = is_id id given
is_shown_to id here ids_of (Client o at (Play t)) = is_id id (ids_of o)
is_shown_to id here ids_of (Client o at (Reattach c)) = here
is_shown_to id here ids_of (Client o at (Join c)) = here
is_shown_to id here ids_of _ = false

-- whether a client of this name sees all that there is of a target at a command: one is attached, and the target is no
-- detached channel; or the command plays the target to one
unfoldable pub sees : Settings → List Command → List ℕ → List ℕ → Command → Bool
sees s earlier id t x =
    let hidden = is_channel t && detached s earlier t in
    (holds s earlier id && not hidden)
    || (plays (takes s earlier x) (attached s earlier) hidden t (is_known s earlier t) x && is_shown_to id (holds s earlier id) (id_of s earlier) x)

-- the greatest place at which a client of this name saw all that there was of a target, 0 if none did; the first
-- command is at 1
unfoldable pub mark : Settings → List ℕ → List ℕ → List Command → ℕ
mark s id t [] = 0
mark s id t (x ∷ earlier) = if sees s earlier id t x then suc (length earlier) else mark s id t earlier

-- the line that a command adds to a target, with its place
abbrev pub stored_at : Settings → List ℕ → List Command → Command → Option (ℕ × (ℕ × Parts))
stored_at s t earlier x = option_map (λ line. (suc (length earlier), line)) (stored s t earlier x)

-- the lines that a target keeps, each with its place, the oldest first
unfoldable pub placed : Settings → List Command → List ℕ → List (ℕ × (ℕ × Parts))
placed s history t = kept_lines (stored_at s t) (emptied s t) (size s t) history

-- the kept lines above the mark of a name, the oldest first
unfoldable pub unseen : Settings → List Command → List ℕ → List ℕ → List (ℕ × Parts)
unseen s history id t = map (λ k. k.1) (filter (λ k. nat_lt (mark s id t history) k.0) (placed s history t))

-- how many of the kept lines lie at or below the mark of a name
unfoldable pub seen : Settings → List Command → List ℕ → List ℕ → ℕ
seen s history id t = length (filter (λ k. not (nat_lt (mark s id t history) k.0)) (placed s history t))

-- what a name has not seen with its times, between the frame lines; nothing where it has seen all
unfoldable pub playback_for : Settings → List Command → List ℕ → List ℕ → List Parts
playback_for s history id t =
    if is_known s history t then framed s.offset (made_as s history t) (unseen s history id t) else []

-- what is played of a target to a client: all that is kept or, if it has a name, what that has not seen
abbrev pub playback_by : Settings → List Command → Option (List ℕ) → List ℕ → List Parts
playback_by s history None t = playback s history t
playback_by s history (Some id) t = playback_for s history id t
