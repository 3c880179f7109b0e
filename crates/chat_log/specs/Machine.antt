-- What the machine is after a history.
use Rattle.std.specs.Prelude.{◌≡◌, false, ℕ, List, []}
use Rattle.machine_laws.specs.Runs.{History}
use Rattle.buffer_commands.specs.declared.command.Command.{Command}
use Rattle.buffer_machine.specs.Held.{commands}
use Rattle.buffer_machine.specs.Machine as buffers
use Rattle.chat_log.specs.Chats.{chat_text}
use Rattle.chat_log.specs.declared.chat.Chat.{Chat}
use Rattle.chat_log.specs.declared.setup.ChatSetup.{ChatSetup}
use Rattle.chat_log.specs.declared.setup.Silence.{Silence}

-- the buffers stand after the history, the text is that of its commands, and memory never ran out
pub record Stands (m : Chat) (s : ChatSetup) (history : History Command) : Type 0 where
  pub choice : m.choice ≡ s.choice
  pub buffers : buffers.Stands m.buffers s.buffers history
  pub text : m.text.items ≡ chat_text s.buffers s.choice.extent s.choice.target (commands history)
  pub whole : m.spoilt ≡ false

-- no command brings anything about
abbrev pub nothing : ChatSetup → History Command → ℕ → Command → List Silence
nothing s history place x = []
