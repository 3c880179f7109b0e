use Rattle.std.proofs.Common.{◌++◌, ap, ◌∙◌, sym}
use Rattle.buffer_machine.specs.Buffers.{nick}
use Rattle.buffer_machine.specs.Crowd.{attached}
use Rattle.buffer_machine.specs.Held.{commands}
use Rattle.chat_log.specs.Chats.{chat_lines, chat_text, shown_text, told}
use Rattle.chat_log.proofs.Shown.{shown_text-append}
use Rattle.chat_log.proofs.chat.step.Goals as goal

pub returns-clause-text : goal.returns-clause-text
unfolding chat_text chat_lines
returns-clause-text c = λ s history st e.
    let extent = c.args.choice.now.extent in
    let target = c.args.choice.now.target in
    let new = told target (attached s (commands history)) (nick s (commands history)) c.args.command.now in
    c.in_ok-push_told.ensures s history st ∙ (ap (λ t. t ++ shown_text extent new) e ∙ sym (shown_text-append extent (chat_lines s target (commands history)) new))
