use Rattle.std.proofs.Common.{sym, ◌∙◌}
use Rattle.buffer_machine.specs.Machine.{held_of}
use Rattle.buffer_machine.specs.Messages.{own_said}
use Rattle.buffer_machine.proofs.Said.{said-held}
use Rattle.buffer_machine.proofs.saying.say.Goals as goal

pub returns-clause-held : goal.returns-clause-held
returns-clause-held c =
    said-held c.args.setup.now (held_of c.args.buffers.now) (held_of c.share.new.buffers) c.args.at c.args.name.now (own_said c.args.buffers.now.nick c.args.verb c.args.name.now c.args.text.now)
    (sym c.is_channel.ensures ∙ c.if-not-is_channel.false) (rw c.in_ok-line.ensures at c.in_ok-effects.ensures.held)
