use Rattle.std.specs.Option.{option_map}
use Rattle.chat_log.proofs.Told.{told_is}
use Rattle.chat_log.proofs.log.chat_log.Goals as goal

pub returns-clause-text : goal.returns-clause-text
returns-clause-text c =
    told_is c.args.extent (option_map (λ x. x.now) c.args.target) _ c.in_ok-saved.saved c.in_ok-text.text.items c.in_ok-saved.ensures.found c.in_ok-text.ensures
