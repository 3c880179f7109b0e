use Rattle.std.proofs.Common.{rules, not}
use Rattle.std.proofs.lemmas.Fn.{filter_same}
use Rattle.irc_line.specs.Names.{same_name}
use Rattle.driver.specs.Keys.{KeyOf}
use Rattle.driver.proofs.key_ring.forget.Goals as goal

pub returns : goal.returns
returns c = filter_same _ (λ (known : KeyOf). not (same_name c.args.channel.now known.channel)) _ (λ x b q r. search rules) _ _ c.retain.ensures.filtered
