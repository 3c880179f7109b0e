use Rattle.std.proofs.Common.{sym, ◌∙◌}
use Rattle.client_gate.proofs.ChannelNames.{has_its_name}
use Rattle.client_gate.proofs.messages.channel_of.Goals as goal

pub returns-in-None : goal.returns-in-None
returns-in-None c =
    absurd (has_its_name c.args.word.now (sym c.is_channel_name.ensures ∙ c.if-not-is_channel_name.false) (sym c.in-None.is ∙ c.in_ok-name.ensures))
