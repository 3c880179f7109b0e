use Rattle.irc_line.specs.Names.{fold_name}
use Rattle.buffer_targets.specs.Targets.{channel_names}
use Rattle.buffer_targets.proofs.Rising.{none_at_gap}
use Rattle.buffer_targets.proofs.channels.Channels.place_of.Goals as goal

pub returns-in-Err : goal.returns-in-Err
returns-in-Err c = none_at_gap (fold_name c.args.name.now) (channel_names c.args.self.now) _ c.in-Err.ensures.place
