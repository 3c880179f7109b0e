use Rattle.std.proofs.Common.{refl, sym, ◌∙◌}
use Rattle.chat_log.specs.Chats.{chat_lines, chat_text}
use Rattle.chat_log.proofs.Shown.{nothing_shown}
use Rattle.chat_log.proofs.chat.ChatMachine.start.Goals as goal

pub returns : goal.returns
unfolding chat_text chat_lines
returns c = record { choice = c.in_ok-copy.ensures; buffers = c.in_ok-start.ensures; text = c.new.ensures.items ∙ sym (nothing_shown _); whole = refl }
