use Rattle.std.proofs.Common.{rules, not}
use Rattle.std.proofs.lemmas.Fn.{filter_same}
use Rattle.irc_line.specs.Names.{same_name}
use Rattle.driver.proofs.client.channels.Channels.close.Goals as goal

pub returns : goal.returns
returns c = rw (← c.self.view_is) (filter_same _ (λ other. not (same_name c.args.name.now other)) _ (λ x b q r. search rules) _ _ c.retain.ensures.filtered)
