-- The chat of a list of commands, the newest first: all of it or what concerns one target, with or without the other
-- lines of the server.
use Rattle.std.specs.Prelude.{ℕ, Bool, true, ◌&&◌, ◌||◌, if◌then◌else◌, List, [], ◌∷◌, ◌++◌, Option, Some, None, filter, codes}
use Rattle.std.specs.List.{list_any}
use Rattle.irc_line.specs.Names.{same_name}
use Rattle.irc_line.specs.Lines.{Parts}
use Rattle.wire_bytes.specs.declared.origin.Origin.{Origin}
use Rattle.buffer_commands.specs.Settings.{Settings}
use Rattle.buffer_commands.specs.declared.command.Action.TheVariants.{Say}
use Rattle.buffer_commands.specs.declared.command.Command.{Command}
use Rattle.buffer_commands.specs.declared.command.Command.TheVariants.{Client, Upstream}
use Rattle.buffer_machine.specs.Buffers.{nick}
use Rattle.buffer_machine.specs.Crowd.{attached}
use Rattle.buffer_machine.specs.Messages.{channel_of, has_command, is_among, is_message, is_query_line, own_said, source}
use Rattle.chat_log.specs.declared.choice.Extent.{Extent}
use Rattle.chat_log.specs.declared.choice.Extent.TheVariants.{All, Chat}
use Rattle.chat_log.specs.Texts.{text_of}

-- a line that names a target as its channel, is said to it, or belongs to its query
abbrev pub concerns : List ℕ → List ℕ → Parts → Bool
concerns nick target line =
    same_name target (channel_of line)
    || (is_query_line nick line && same_name target (source line))

-- every line, or one that concerns the target
abbrev pub is_wanted : Option (List ℕ) → List ℕ → Parts → Bool
is_wanted None nick line = true
is_wanted (Some target) nick line = concerns nick target line

-- what is printed for a line at a moment
abbrev pub told_line : Option (List ℕ) → List ℕ → ℕ → Parts → List (ℕ × Parts)
told_line target nick at line = if is_wanted target nick line then (at, line) ∷ [] else []

-- what is printed for a command, given who is attached and the own nick before it: a line from upstream, and what an
-- attached client says, as the others see it
abbrev pub told : Option (List ℕ) → List Origin → List ℕ → Command → List (ℕ × Parts)
told target attached nick (Upstream at line) = told_line target nick at line
told target attached nick (Client o at (Say verb name text)) =
    if is_among o attached then told_line target nick at (own_said nick verb name text) else []
told target attached nick _ = []

-- the lines that are printed for the commands that came, the oldest first
unfoldable pub chat_lines : Settings → Option (List ℕ) → List Command → List (ℕ × Parts)
chat_lines s target [] = []
chat_lines s target (x ∷ earlier) =
    chat_lines s target earlier ++ told target (attached s earlier) (nick s earlier) x

-- what people say and do (RFC 2812, 3.1 to 3.3): messages and notices; setting a nick, a topic or a mode; joins, parts,
-- quits and kicks
abbrev pub is_chat : Parts → Bool
is_chat line =
    is_message line
    || list_any (λ w. has_command w line) (codes "JOIN" ∷ codes "PART" ∷ codes "QUIT" ∷ codes "KICK"
    ∷ codes "NICK" ∷ codes "TOPIC" ∷ codes "MODE" ∷ [])

-- a line is within an extent
abbrev pub is_shown : Extent → Parts → Bool
is_shown Chat line = is_chat line
is_shown All line = true

-- the lines that are within an extent: all of them, or those that are chat, in their order
abbrev pub shown : Extent → List (ℕ × Parts) → List (ℕ × Parts)
shown Chat lines = filter (λ k. is_chat k.1) lines
shown All lines = lines

-- the text of these lines
abbrev pub shown_text : Extent → List (ℕ × Parts) → List ℕ
shown_text extent lines = text_of (shown extent lines)

-- the text of the commands that came: that of their lines within an extent
unfoldable pub chat_text : Settings → Extent → Option (List ℕ) → List Command → List ℕ
chat_text s extent target list = shown_text extent (chat_lines s target list)
