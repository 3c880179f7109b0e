-- The channels that a client has open, by what it is shown.
use Rattle.std.specs.Prelude.{◌==◌, ◌&&◌, ◌||◌, ℕ, Bool, false, not, codes, nat_eq, if◌then◌else◌, filter, List, [], ◌∷◌, ◌++◌, Option, Some, None}
use Rattle.std.specs.List.{list_any, starts_with, take_while}
use Rattle.irc_line.specs.Names.{is_name, same_bytes, same_name}
use Rattle.buffer_commands.specs.declared.effect.Effect.TheVariants as effect
use Rattle.session_fence.specs.declared.effect.FenceEffect.TheVariants as fence
use Rattle.upstream_claim.specs.declared.effect.ClaimsEffect.TheVariants as claims
use Rattle.request_once.specs.declared.answer.Answer.TheVariants as answer
use Rattle.client_gate.specs.Gates.{GateEffect}

-- the bytes after the first space, if there is one
abbrev pub behind_space : List ℕ → List ℕ
behind_space [] = []
behind_space (byte ∷ more) = if byte == 32 then more else behind_space more

-- the bytes before the first occurrence of a byte
abbrev pub upto : ℕ → List ℕ → List ℕ
upto mark bytes = take_while (λ b. not (b == mark)) bytes

-- the nick in the prefix of a line, without the prefix's colon
abbrev pub source_in : List ℕ → List ℕ
source_in line = upto 33 (upto 32 line)

-- its command
abbrev pub command_in : List ℕ → List ℕ
command_in line = upto 32 (behind_space line)

-- its first parameter, up to a space
abbrev pub first_in : List ℕ → List ℕ
first_in line = upto 32 (behind_space (behind_space line))

-- its second parameter, up to a space
abbrev pub second_in : List ℕ → List ℕ
second_in line = upto 32 (behind_space (behind_space (behind_space line)))

-- the bytes of a line with a prefix whose command is JOIN
abbrev pub is_join : List ℕ → Bool
is_join [] = false
is_join (byte ∷ line) = byte == 58 && starts_with nat_eq (behind_space line) (codes "JOIN ")

-- the nick in the prefix of such a line
abbrev pub nick_joining : List ℕ → Option (List ℕ)
nick_joining [] = None
nick_joining (byte ∷ line) = if is_join (byte ∷ line) then Some (source_in line) else None

-- the channel of such a line
abbrev pub channel_joined : List ℕ → Option (List ℕ)
channel_joined [] = None
channel_joined (byte ∷ line) = if is_join (byte ∷ line) then Some (first_in line) else None

-- a PART by this nick
abbrev pub is_part : List ℕ → List ℕ → Bool
is_part nick line = same_bytes (command_in line) (codes "PART") && same_name (source_in line) nick

-- a KICK of this nick
abbrev pub is_kick : List ℕ → List ℕ → Bool
is_kick nick line = same_bytes (command_in line) (codes "KICK") && same_name (second_in line) nick

-- the channel that such a line, with a prefix, closes for this nick
abbrev pub channel_left : List ℕ → List ℕ → Option (List ℕ)
channel_left nick [] = None
channel_left nick (byte ∷ line) = if byte == 58 && (is_part nick line || is_kick nick line) then Some (first_in line) else None

-- the nick by which an effect shows its client that someone joins a channel, if it does
abbrev pub joined_as : GateEffect → Option (List ℕ)
joined_as (answer.Effect (claims.Inner (fence.Inner (effect.Show origin shown)))) = nick_joining shown
joined_as other = None

-- the channel that it opens in this way
abbrev pub opened_by : GateEffect → Option (List ℕ)
opened_by (answer.Effect (claims.Inner (fence.Inner (effect.Show origin shown)))) = channel_joined shown
opened_by other = None

-- the channel that an effect closes at a client of this nick
abbrev pub closed_by : List ℕ → GateEffect → Option (List ℕ)
closed_by nick (answer.Effect (claims.Inner (fence.Inner (effect.Show origin shown)))) = channel_left nick shown
closed_by nick other = None

-- a channel of this name is among those that are open
abbrev pub has_open : List ℕ → List (List ℕ) → Bool
has_open name names = list_any (same_name name) names

-- those that are open once one of this name is
abbrev pub opened : List ℕ → List (List ℕ) → List (List ℕ)
opened name names = if has_open name names || not (is_name name) then names else names ++ name ∷ []

-- those that are open once none of this name is
abbrev pub closed : List ℕ → List (List ℕ) → List (List ℕ)
closed name names = filter (λ other. not (same_name name other)) names

-- those that are open once one of this name is, if there is one
abbrev pub opened_if : Option (List ℕ) → List (List ℕ) → List (List ℕ)
opened_if None names = names
opened_if (Some name) names = opened name names

-- those that are open once none of this name is, if there is one
abbrev pub closed_if : Option (List ℕ) → List (List ℕ) → List (List ℕ)
closed_if None names = names
closed_if (Some name) names = closed name names

-- those that are open after an effect, at a client of this nick
abbrev pub open_behind : List ℕ → GateEffect → List (List ℕ) → List (List ℕ)
open_behind nick effect names = closed_if (closed_by nick effect) (opened_if (opened_by effect) names)
