use Rattle.std.proofs.Common.{List, ap, not, rules}
use Rattle.std.proofs.lemmas.Fn.{filter_same}
use Rattle.irc_line.specs.Names.{same_name}
use Rattle.driver.specs.Absent.{Missed}
use Rattle.driver.proofs.absent_channels.AbsentChannels.settle.Goals as goal

pub returns : goal.returns
returns c =
    rw (← c.self.view_is)
    (ap (λ (channels : List Missed). record { channels = channels; count = c.self.inside.count })
    (filter_same _ (λ (missed : Missed). not (same_name c.args.channel.now missed.channel)) _ (λ x b q r. search rules) _ _ c.retain.ensures.filtered))
