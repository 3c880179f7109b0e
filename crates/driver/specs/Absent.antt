-- Channels that should be joined but are not: which, and why, as far as the server said so.
use Rattle.std.specs.Prelude.{◌≡◌, ℕ, ◌+◌, ◌^◌, min, Bool, true, false, ◌&&◌, ◌||◌, not, nat_eq, nat_le, if◌then◌else◌, codes, is_some, drop, filter, length, take, List, [], ◌∷◌, ◌++◌, Option, Some, None}
use Rattle.std.specs.List.{list_any}
use Rattle.irc_line.specs.Lines.{Parts, parameter}
use Rattle.irc_line.specs.Names.{is_channel, same_name}
use Rattle.buffer_machine.specs.Messages.{has_command, is_own, is_own_kick, source}
use Rattle.driver.specs.declared.absent_channels.TheConstants.{MOST_CHANNELS, MOST_REASON}
use Rattle.driver.specs.Parameters.{last_parameter, nick_or_server}
use Rattle.driver.specs.Telling.{one_more}

-- why a channel is not joined, and the number of the reason among all so far
pub record Why : Type 0 where
  pub number : ℕ
  pub text : List ℕ

-- a channel that should be joined but is not; the reason is not known until the server has answered
pub record Missed : Type 0 where
  pub channel : List ℕ
  pub why : Option Why

-- all of them, and how many reasons there have been
pub record Absences : Type 0 where
  pub channels : List Missed
  pub count : ℕ

-- no channels
abbrev pub none_absent : Absences
none_absent = record { channels = []; count = 0 }

-- those of other channels
abbrev pub without : List ℕ → List Missed → List Missed
without channel channels = filter (λ missed. not (same_name channel missed.channel)) channels

-- these with room for one more: if the list is full, the oldest is dropped
abbrev pub with_room : List Missed → List Missed
with_room channels = if nat_le MOST_CHANNELS (length channels) then drop 1 channels else channels

-- one more, the newest
abbrev pub with_channel : List ℕ → Option Why → List Missed → List Missed
with_channel channel why channels = with_room (without channel channels) ++ record { channel = channel; why = why } ∷ []

-- a JOIN of a channel was sent
abbrev pub asked : List ℕ → Absences → Absences
asked channel absent = record absent { channels = with_channel channel None absent.channels }

-- a channel is not joined, for this reason
abbrev pub barred : List ℕ → List ℕ → Absences → Absences
barred channel text absent = record {
  channels = with_channel channel (Some (record { number = one_more absent.count; text = text })) absent.channels;
  count = one_more absent.count;
}

-- a channel is joined, or is not wanted any more
abbrev pub settled : List ℕ → Absences → Absences
settled channel absent = record absent { channels = without channel absent.channels }

-- a session begins: nothing is known
abbrev pub cleared : Absences → Absences
cleared absent = record absent { channels = [] }

-- the server has yet to answer a JOIN of this channel
abbrev pub is_asked_for : List ℕ → Missed → Bool
is_asked_for channel missed = same_name channel missed.channel && not (is_some missed.why)

abbrev pub is_waited_for : List ℕ → Absences → Bool
is_waited_for channel absent = list_any (is_asked_for channel) absent.channels

-- What the server says.

-- the user with this nick joined a channel, or left it
abbrev pub is_settled : List ℕ → Parts → Bool
is_settled nick line = is_own (codes "JOIN") nick line || is_own (codes "PART") nick line

-- a numeric that refuses something: 400 to 499
abbrev pub is_refusal : List ℕ → Bool
is_refusal (a ∷ b ∷ c ∷ []) = nat_eq a 52
is_refusal other = false

-- the server answers a JOIN with a refusal, which names the channel (RFC 2812, 5.2)
abbrev pub is_refused : Parts → Absences → Bool
is_refused line absent = is_refusal line.command && is_waited_for (parameter 1 line) absent

-- a reason, cut to what fits
abbrev pub cut_reason : List ℕ → List ℕ
cut_reason text = take MOST_REASON text

-- a text in brackets, if it is not empty
abbrev pub in_brackets : List ℕ → List ℕ
in_brackets [] = []
in_brackets (byte ∷ text) = codes " (" ++ byte ∷ text ++ codes ")"

-- who kicked, and why
abbrev pub kick_reason : Parts → List ℕ
kick_reason line = codes "kicked by " ++ nick_or_server (source line) ++ in_brackets (parameter 2 line)

-- what is known of channels after a line from the server, for the user with this nick
abbrev pub absent_behind : List ℕ → Parts → Absences → Absences
absent_behind nick line absent =
    if is_settled nick line then settled (parameter 0 line) absent
    else if is_own_kick nick line then barred (parameter 0 line) (cut_reason (kick_reason line)) absent
    else if is_refused line absent then barred (parameter 1 line) (cut_reason (last_parameter line)) absent
    else absent

-- the number of the reason in the line, if it gives one
abbrev pub reason_number : List ℕ → Parts → Absences → Option ℕ
reason_number nick line absent =
    if is_settled nick line then None
    else if is_own_kick nick line || is_refused line absent then Some (one_more absent.count)
    else None

-- What people are shown.

abbrev pub why_text : List ℕ → Option Why → Option (List ℕ)
why_text channel None = None
why_text channel (Some why) = Some (channel ++ codes " is not joined: " ++ why.text)

-- that a channel is not joined, and why, once that is known
abbrev pub absent_text : Missed → Option (List ℕ)
absent_text missed = why_text missed.channel missed.why

-- it is the reason of this number
abbrev pub has_number : ℕ → Option Why → Bool
has_number number None = false
has_number number (Some why) = nat_eq why.number number

-- what people are shown about the channel whose reason has this number, if there is one
abbrev pub text_numbered : ℕ → List Missed → Option (List ℕ)
text_numbered number [] = None
text_numbered number (missed ∷ more) = if has_number number missed.why then absent_text missed else text_numbered number more
