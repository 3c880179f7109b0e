use Rattle.std.specs.Option.{option_map}
use Rattle.irc_line.proofs.Building.{message_line}
use Rattle.irc_line.proofs.line.Line.message.Goals as goal

pub new-requires : goal.new-requires
new-requires c =
    rw (c.as_bytes.ensures.value, c.as_bytes-2.ensures.value)
    (message_line (option_map (λ x. x.now) c.args.prefix) c.args.command.now c.args.target.now c.args.text.now c.requires.prefix c.requires.command c.as_bytes.ensures.name c.as_bytes-2.ensures.text)
